-- How a pool changes: it may lose one message, and others join its end.
use Rattle.std.proofs.Common.{◌≡◌, ℕ, ◌⊎◌, List, [], ◌++◌, Some, sym, refl, subst, inl, inr, ⊎_elim, append-nil}
use Rattle.std.specs.List.{remove, All, slice_get}
use Rattle.std.proofs.lemmas.List.Elements.{All-nil, All-append, All-weaker}
use Rattle.machine.proofs.Tables.{Mem, all_removed, mem_left, mem_removed}

-- the messages that join are N, and one that leaves is D
abbrev pub Swap : {A : Type 0} → (A → Type 0) → (A → Type 0) → List A → List A → Type 0
Swap {A} N D l l' =
    (kept : List A) × (new : List A) × (l' ≡ kept ++ new) × All N new
    × ((kept ≡ l) ⊎ ((p : ℕ) × (m : A) × (slice_get l p ≡ Some m) × D m × (kept ≡ remove l p)))

pub swap_none : {A : Type 0} (N D : A → Type 0) (l : List A) → Swap N D l l
swap_none N D l = (l, [], sym (append-nil l), All-nil N, inl refl)

pub swap_new : {A : Type 0} (N D : A → Type 0) (l new : List A) → All N new → Swap N D l (l ++ new)
swap_new N D l new a = (l, new, refl, a, inl refl)

pub swap_removed : {A : Type 0} (N D : A → Type 0) (l : List A) (p : ℕ) (m : A) → slice_get l p ≡ Some m → D m → Swap N D l (remove l p)
swap_removed N D l p m e d = (remove l p, [], sym (append-nil (remove l p)), All-nil N, inr (p, m, e, d, refl))

pub swap_both : {A : Type 0} (N D : A → Type 0) (l new : List A) (p : ℕ) (m : A) → slice_get l p ≡ Some m → D m → All N new → Swap N D l (remove l p ++ new)
swap_both N D l new p m e d a = (remove l p, new, refl, a, inr (p, m, e, d, refl))

pub swap_all : {A : Type 0} (N D P : A → Type 0) (l l' : List A) → Swap N D l l' → ((m : A) → N m → P m) → All P l → All P l'
swap_all N D P l l' w h a =
    let kept : All P w.0 = ⊎_elim (λ e. subst (All P) (sym e) a) (λ q. subst (All P) (sym q.4) (all_removed P l q.0 a)) w.4 in
    subst (All P) (sym w.2) (All-append P w.0 w.1 kept (All-weaker N P h w.1 w.3))

pub swap_mem : {A : Type 0} (N D : A → Type 0) (l l' : List A) → Swap N D l l' → (m : A) → (D m → ⊥) → Mem m l → Mem m l'
swap_mem N D l l' w m out h =
    let kept : Mem m w.0 =
    ⊎_elim (λ e. subst (Mem m) (sym e) h)
    (λ q. ⊎_elim (λ same. absurd (out (subst D same q.3))) (λ g. subst (Mem m) (sym q.4) g) (mem_removed m q.1 l q.0 q.2 h)) w.4 in
    subst (Mem m) (sym w.2) (mem_left m w.0 w.1 kept)
