-- What an open operation of a station inside waits for: each answer that it lacks is on its way, or will be sent.
use Rattle.std.proofs.Common.{◌≡◌, ℕ, suc, ◌<◌, ◌≤◌, max, true, eqb, ◌⊎◌, List, [], ◌∷◌, ◌++◌, Some, sym, refl, ap, ◌∙◌, subst, ap₂, inl, inr, ⊎_elim, append-nil, get_or, arith}
use Rattle.std.specs.List.{range_with_len, remove as removed, All, slice_get}
use Rattle.std.proofs.lemmas.Bool.{both_ways, cases_lt, cases_eq, cond_both, and_parts, eqb-true, eq-eqb}
use Rattle.std.proofs.lemmas.List.Elements.{All-nil, All-append, All-push, All-weaker}
use Rattle.station_set.specs.Sets.{has, with_station}
use Rattle.machine.specs.declared.message.Message.{Message}
use Rattle.machine.specs.declared.message.Message.TheVariants.{Init, Echo, Ready, WriteDone, Read, State as StateOf, CatchUp, CatchUpDone}
use Rattle.machine.specs.declared.station.Stage.{Stage}
use Rattle.machine.specs.declared.station.Stage.TheVariants.{Idle, Writing, Querying, Catching}
use Rattle.machine.specs.declared.station.Station.{Station}
use Rattle.machine.specs.declared.call.Opening.{Opening}
use Rattle.machine.specs.State.{Setting, Lawful, Cell, State, number, put, fresh_cell, remove}
use Rattle.machine.specs.Calls.{sender, receiver, opened}
use Rattle.machine.proofs.Tables.{put_all, put_else, put_same, put_pair_same, put_pair_other, put_triple_else, all_nth, all_removed, all_to_all, all_and_each, Mem, mem_left, mem_right, mem_map, mem_kept, mem_counting, mem_to_all, mem_removed}
use Rattle.machine.proofs.Pools.{swap_all, swap_mem}
use Rattle.machine.proofs.Quorums.{joined, joined_before}
use Rattle.machine.proofs.Acts.{Act, Elsewhere, Drop, StartWrite, StartRead, SendEcho, GotEcho, GotReady, SendReady, TakeValue, GotReport, Freshen, GotDone, EndWrite, GotCaught, EndRead, Report, AnswerNow, Hold}
use Rattle.machine.proofs.Acts.{In, apply, Guard, Foreign, Spent}
use Rattle.machine.proofs.Frames.{Casting, Asking, Casts, casts_send_echo, casts_got_echo, casts_got_ready, casts_send_ready, kinds_apart}
use Rattle.machine.proofs.History.{History, known}
use Rattle.machine.proofs.Registers.{Sincere, SincereMessage}

module _ {V : Type 0} (c : Setting V) (L : Lawful c) (f : ℕ) (v₀ : V) where
  -- what the operation of station i has of station k, or waits for
  abbrev pub Awaits : State V → ℕ → ℕ → Stage V → Type 0
  Awaits s i k Idle = Unit {0}
  Awaits s i k (Writing x done) = x ≤ number s k i → Mem (WriteDone k i x) s.pool ⊎ (has done k ≡ true)
  Awaits s i k (Querying j r reported) =
      Mem (Read i k j r) s.pool ⊎ (((z : ℕ) × Mem (StateOf k i j r z) s.pool) ⊎ (has reported k ≡ true))
  Awaits s i k (Catching j x v done) =
      Mem (CatchUp i k j x) s.pool
      ⊎ (((s.held k i j ≡ x) × (number s k j < x)) ⊎ (Mem (CatchUpDone k i j x) s.pool ⊎ (has done k ≡ true)))

  abbrev pub AllAwait : State V → ℕ → Stage V → Type 0
  AllAwait s i o = (k : ℕ) → In f k → k < c.system.stations → Awaits s i k o

  -- a number that is asked for register j is not above the one that is being caught
  abbrev AtMost : ℕ → ℕ → Stage V → Type 0
  AtMost j x Idle = Unit {0}
  AtMost j x (Writing y done) = Unit {0}
  AtMost j x (Querying k r reported) = Unit {0}
  AtMost j x (Catching k y v done) = k ≡ j → x ≤ y

  abbrev Asked : (ℕ → Stage V) → Message V → Type 0
  Asked stage (Init k i x v) = Unit {0}
  Asked stage (Echo k i j x v) = Unit {0}
  Asked stage (Ready k i j x v) = Unit {0}
  Asked stage (WriteDone k i x) = Unit {0}
  Asked stage (Read k i j r) = Unit {0}
  Asked stage (StateOf k i j r x) = Unit {0}
  Asked stage (CatchUp i k j x) = In f i → AtMost j x (stage i)
  Asked stage (CatchUpDone k i j x) = Unit {0}

  abbrev stages : State V → ℕ → Stage V
  stages s i = (s.station i).stage

  pub record Pending (s : State V) : Type 0 where
    pub awaits : (i : ℕ) → In f i → i < c.system.stations → AllAwait s i (s.station i).stage
    pub asked : All (Asked (stages s)) s.pool
    pub held_low : (k i j : ℕ) → In f k → In f i → s.held k i j ≤ number s i j
    pub held_asked : (k i j : ℕ) → In f k → In f i → AtMost j (s.held k i j) (s.station i).stage

  -- Frames

  -- a message that may leave is m₀; numbers and what is held stay
  record Leaves (s t : State V) (m₀ : Message V) : Type 0 where
    keeps : (m : Message V) → Asking m → In f (sender m) → In f (receiver m) → Mem m s.pool → (m₀ ≡ m) ⊎ Mem m t.pool
    numbers : (k j : ℕ) → In f k → number t k j ≡ number s k j
    helds : (k i j : ℕ) → In f k → t.held k i j ≡ s.held k i j

  -- the answers that an operation of i has to do with k about
  abbrev Concerns : ℕ → ℕ → Stage V → Message V → Type 0
  Concerns i k Idle m = ⊥
  Concerns i k (Writing x done) m = m ≡ WriteDone k i x
  Concerns i k (Querying j r reported) m = (m ≡ Read i k j r) ⊎ ((z : ℕ) × (m ≡ StateOf k i j r z))
  Concerns i k (Catching j x v done) m = (m ≡ CatchUp i k j x) ⊎ (m ≡ CatchUpDone k i j x)

  awaits_on : (s t : State V) (m₀ : Message V) → Leaves s t m₀ → (i k : ℕ) → In f i → In f k → (o : Stage V)
      → (Concerns i k o m₀ → Awaits t i k o) → Awaits s i k o → Awaits t i k o
  awaits_on s t m₀ w i k e q Idle g a = tt
  awaits_on s t m₀ w i k e q (Writing x done) g a = λ l.
      ⊎_elim
      (λ m. ⊎_elim (λ z. g z l) inl (w.keeps (WriteDone k i x) tt q e m))
      inr (a (omega (arith, l, w.numbers k i q)))
  awaits_on s t m₀ w i k e q (Querying j r reported) g a =
      ⊎_elim
      (λ m. ⊎_elim (λ z. g (inl z)) inl (w.keeps (Read i k j r) tt e q m))
      (λ b. ⊎_elim
      (λ m. ⊎_elim (λ z. g (inr (m.0, z))) (λ z. inr (inl (m.0, z))) (w.keeps (StateOf k i j r m.0) tt q e m.1))
      (λ d. inr (inr d)) b) a
  awaits_on s t m₀ w i k e q (Catching j x v done) g a =
      ⊎_elim
      (λ m. ⊎_elim (λ z. g (inl z)) inl (w.keeps (CatchUp i k j x) tt e q m))
      (λ b. ⊎_elim
      (λ m. inr (inl (w.helds k i j q ∙ m.0, omega (arith, m.1, w.numbers k j q))))
      (λ d. ⊎_elim (λ m. ⊎_elim (λ z. g (inr z)) (λ z. inr (inr (inl z))) (w.keeps (CatchUpDone k i j x) tt q e m)) (λ z. inr (inr (inr z))) d) b) a

  at_most_low : (j x y : ℕ) (o : Stage V) → y ≤ x → AtMost j x o → AtMost j y o
  at_most_low j x y Idle l a = tt
  at_most_low j x y (Writing z done) l a = tt
  at_most_low j x y (Querying k r reported) l a = tt
  at_most_low j x y (Catching k z v done) l a = λ q. omega (arith, a q)

  outside_asked : (g : ℕ → Stage V) (m : Message V) → has f (sender m) ≡ true → Asked g m
  outside_asked g (Init k i x v) e = tt
  outside_asked g (Echo k i j x v) e = tt
  outside_asked g (Ready k i j x v) e = tt
  outside_asked g (WriteDone k i x) e = tt
  outside_asked g (Read k i j r) e = tt
  outside_asked g (StateOf k i j r x) e = tt
  outside_asked g (CatchUp i k j x) e = λ q. absurd (both_ways _ q e)
  outside_asked g (CatchUpDone k i j x) e = tt

  casting_asked : (g : ℕ → Stage V) (m : Message V) → Casting m → Asked g m
  casting_asked g (Init k i x v) e = tt
  casting_asked g (Echo k i j x v) e = tt
  casting_asked g (Ready k i j x v) e = tt
  casting_asked g (WriteDone k i x) e = tt
  casting_asked g (Read k i j r) e = tt
  casting_asked g (StateOf k i j r x) e = tt
  casting_asked g (CatchUp i k j x) e = absurd e
  casting_asked g (CatchUpDone k i j x) e = tt

  -- a message of the broadcast concerns no operation
  unconcerned : (i k : ℕ) (o : Stage V) (m : Message V) → Casting m → Concerns i k o m → ⊥
  unconcerned i k Idle m a b = b
  unconcerned i k (Writing x done) m a b = subst Casting b a
  unconcerned i k (Querying j r reported) m a (inl b) = subst Casting b a
  unconcerned i k (Querying j r reported) m a (inr b) = subst Casting b.1 a
  unconcerned i k (Catching j x v done) m a (inl b) = subst Casting b a
  unconcerned i k (Catching j x v done) m a (inr b) = subst Casting b a

  -- the stages of stations inside that two states share
  asked_like : (g g' : ℕ → Stage V) → ((i : ℕ) → In f i → g' i ≡ g i) → (m : Message V) → Asked g m → Asked g' m
  asked_like g g' e (Init k i x v) a = tt
  asked_like g g' e (Echo k i j x v) a = tt
  asked_like g g' e (Ready k i j x v) a = tt
  asked_like g g' e (WriteDone k i x) a = tt
  asked_like g g' e (Read k i j r) a = tt
  asked_like g g' e (StateOf k i j r x) a = tt
  asked_like g g' e (CatchUp i k j x) a = λ q. subst (AtMost j x) (sym (e i q)) (a q)
  asked_like g g' e (CatchUpDone k i j x) a = tt

  module _ (s : State V) (h : History V) (S : Sincere c f v₀ s h) (P : Pending s) (sized : s.figures.stations ≡ c.system.stations) where
    -- some message that concerns nobody, where none leaves
    nobody : Message V
    nobody = Init 0 0 0 v₀

    kept : (t : State V) → ((m : Message V) → Asking m → In f (sender m) → In f (receiver m) → Mem m s.pool → Mem m t.pool)
        → ((k j : ℕ) → In f k → number t k j ≡ number s k j) → ((k i j : ℕ) → In f k → t.held k i j ≡ s.held k i j) → Leaves s t nobody
    kept t k n d = record { keeps = λ m a e q w. inr (k m a e q w); numbers = n; helds = d }

    not_nobody : (i k : ℕ) (o : Stage V) → Concerns i k o nobody → ⊥
    unfolding nobody
    not_nobody i k o w = unconcerned i k o (Init 0 0 0 v₀) tt w

    -- no stage of a station inside changes
    same_stages : (t : State V) (m₀ : Message V) → Leaves s t m₀ → ((i : ℕ) → In f i → t.station i ≡ s.station i)
        → ((i k : ℕ) → In f i → i < c.system.stations → In f k → k < c.system.stations → Concerns i k (s.station i).stage m₀ → Awaits t i k (s.station i).stage)
        → All (Asked (stages s)) t.pool → Pending t
    same_stages t m₀ w es g po =
        record {
          awaits = λ i e l k q u. subst (λ (z : Station V). Awaits t i k z.stage) (sym (es i e))
              (awaits_on s t m₀ w i k e q (s.station i).stage (g i k e l q u) (P.awaits i e l k q u));
          asked = All-weaker (Asked (stages s)) (Asked (stages t)) (asked_like (stages s) (stages t) (λ i e. ap (λ (z : Station V). z.stage) (es i e))) t.pool po;
          held_low = λ k i j e q. omega (arith, w.helds k i j e, w.numbers i j q, P.held_low k i j e q);
          held_asked = λ k i j e q. subst (λ (z : Station V). AtMost j (t.held k i j) z.stage) (sym (es i q))
              (subst (λ x. AtMost j x (s.station i).stage) (sym (w.helds k i j e)) (P.held_asked k i j e q));
        }

    -- one stage changes
    new_stage : (a : ℕ) (o : Stage V) (t : State V) (m₀ : Message V) → Leaves s t m₀ → ((b : ℕ) → (t.station b).stage ≡ put a o (stages s) b)
        → ((i k : ℕ) → (i ≡ a → ⊥) → In f i → i < c.system.stations → In f k → k < c.system.stations → Concerns i k (s.station i).stage m₀ → Awaits t i k (s.station i).stage)
        → (In f a → a < c.system.stations → AllAwait t a o) → (In f a → (j x : ℕ) → x ≤ number s a j → AtMost j x (s.station a).stage → AtMost j x o)
        → All (Asked (put a o (stages s))) t.pool → Pending t
    new_stage a o t m₀ w es g new low po =
        record {
          awaits = λ i e l k q u. subst (Awaits t i k) (sym (es i))
              (put_else (λ b z. In f b → b < c.system.stations → Awaits t b k z) a o (stages s)
              (λ b ne e l. awaits_on s t m₀ w b k e q (s.station b).stage (g b k ne e l q u) (P.awaits b e l k q u)) (λ e l. new e l k q u) i e l);
          asked = All-weaker (Asked (put a o (stages s))) (Asked (stages t)) (asked_like (put a o (stages s)) (stages t) (λ i e. es i)) t.pool po;
          held_low = λ k i j e q. omega (arith, w.helds k i j e, w.numbers i j q, P.held_low k i j e q);
          held_asked = λ k i j e q. subst (AtMost j (t.held k i j)) (sym (es i))
              (subst (λ x. AtMost j x (put a o (stages s) i)) (sym (w.helds k i j e))
              (put_all (λ b z. In f b → AtMost j (s.held k b j) z) a o (stages s) (λ b q. P.held_asked k b j e q)
              (λ q. low q j (s.held k a j) (P.held_low k a j e q) (P.held_asked k a j e q)) i q));
        }

    left : (p : ℕ) → All (Asked (stages s)) (removed s.pool p)
    left p = all_removed (Asked (stages s)) s.pool p P.asked

    -- messages where the stage of station a goes to o, which asks for nothing new
    turned : (a : ℕ) (o : Stage V) (l : List (Message V)) → (In f a → (j x : ℕ) → x ≤ number s a j → AtMost j x (s.station a).stage → AtMost j x o)
        → All (SincereMessage c f v₀ (known s h)) l → All (Asked (stages s)) l → All (Asked (put a o (stages s))) l
    turned a o l low x y p m lt = one (get_or l p m) (x p m lt) (y p m lt)
      where
        one : (m : Message V) → SincereMessage c f v₀ (known s h) m → Asked (stages s) m → Asked (put a o (stages s)) m
        one (Init k i x v) p q = tt
        one (Echo k i j x v) p q = tt
        one (Ready k i j x v) p q = tt
        one (WriteDone k i x) p q = tt
        one (Read k i j r) p q = tt
        one (StateOf k i j r x) p q = tt
        one (CatchUp i k j x) p q = put_all (λ b z. b ≡ i → In f b → AtMost j x z) a o (stages s)
            (λ b e w. subst (λ d. AtMost j x (s.station d).stage) (sym e) (q (subst (In f) e w)))
            (λ e w. low w j x (subst (λ d. x ≤ number s d j) (sym e) (p (subst (In f) e w))) (subst (λ d. AtMost j x (s.station d).stage) (sym e) (q (subst (In f) e w)))) i refl
        one (CatchUpDone k i j x) p q = tt

    sincere_left : (p : ℕ) → All (SincereMessage c f v₀ (known s h)) (removed s.pool p)
    sincere_left p = all_removed (SincereMessage c f v₀ (known s h)) s.pool p S.messages

    -- one message leaves, and others may join
    leaves : (t : State V) (p : ℕ) (m₀ : Message V) (l : List (Message V)) → slice_get s.pool p ≡ Some m₀ → t.pool ≡ removed s.pool p ++ l
        → t.cell ≡ s.cell → t.held ≡ s.held → Leaves s t m₀
    leaves t p m₀ l at e ec eh =
        record {
          keeps = λ m _ _ _ w. ⊎_elim inl (λ z. inr (subst (Mem m) (sym e) (mem_left m (removed s.pool p) l z))) (mem_removed m m₀ s.pool p at w);
          numbers = λ k j _. ap (λ (z : ℕ → ℕ → Cell V). (z k j).copy.number) ec;
          helds = λ k i j _. ap (λ (z : ℕ → ℕ → ℕ → ℕ). z k i j) eh;
        }

    adds : (t : State V) (l : List (Message V)) → t.pool ≡ s.pool ++ l → t.cell ≡ s.cell → t.held ≡ s.held → Leaves s t nobody
    adds t l e ec eh =
        kept t (λ m _ _ _ w. subst (Mem m) (sym e) (mem_left m s.pool l w)) (λ k j _. ap (λ (z : ℕ → ℕ → Cell V). (z k j).copy.number) ec)
        (λ k i j _. ap (λ (z : ℕ → ℕ → ℕ → ℕ). z k i j) eh)

    by_foreign : (t : State V) → Foreign c f s t → Pending t
    by_foreign t w =
        same_stages t nobody
        (kept t (λ m _ e q z. swap_mem (λ m. has f (sender m) ≡ true) _ s.pool t.pool w.pool_change m (λ d. ⊎_elim (λ x. both_ways _ e x) (λ x. both_ways _ q x) d) z)
        (λ k j e. ap (λ (z : Cell V). z.copy.number) (w.cell_same k j e)) (λ k i j e. w.held_same k i j e))
        w.station_same (λ i k _ _ _ _ z. absurd (not_nobody i k (s.station i).stage z))
        (swap_all _ _ (Asked (stages s)) s.pool t.pool w.pool_change (outside_asked (stages s)) P.asked)

    by_casts : (t : State V) → Casts c f s t → Pending t
    by_casts t w =
        same_stages t nobody
        (kept t (λ m a _ _ z. swap_mem Casting _ s.pool t.pool w.pool_change m (λ b. kinds_apart m b a) z) (λ k j _. w.number_same k j) (λ k i j _. w.held_same k i j))
        (λ i _. w.station_same i) (λ i k _ _ _ _ z. absurd (not_nobody i k (s.station i).stage z))
        (swap_all _ _ (Asked (stages s)) s.pool t.pool w.pool_change (casting_asked (stages s)) P.asked)

    -- a message without effect
    by_drop : (p : ℕ) (m₀ : Message V) → slice_get s.pool p ≡ Some m₀ → Spent c f s m₀ → Pending (remove p s)
    by_drop p m₀ at w =
        same_stages (remove p s) m₀ (leaves (remove p s) p m₀ [] at (sym (append-nil (removed s.pool p))) refl refl) (λ i _. refl)
        (λ i k e l q u z. useless i k (s.station i).stage refl z) (left p)
      where
        useless : (i k : ℕ) (o : Stage V) → (s.station i).stage ≡ o → Concerns i k o m₀ → Awaits (remove p s) i k o
        useless i k Idle so z = tt
        useless i k (Writing x done) so z = absurd (subst (Spent c f s) z w done so)
        useless i k (Querying j r reported) so (inl z) = absurd (subst (Spent c f s) z w)
        useless i k (Querying j r reported) so (inr z) = inr (inr (subst (Spent c f s) z.1 w reported so))
        useless i k (Catching j x v done) so (inl z) = absurd (subst (Spent c f s) z w)
        useless i k (Catching j x v done) so (inr z) = absurd (subst (Spent c f s) z w v done so)

    by_begin_write : (a : ℕ) (v : V) → ((k : ℕ) → In f k → In f a → number s k a ≤ (s.station a).written) → Pending (apply c f (StartWrite a v) s)
    by_begin_write a v bounded =
        let x : ℕ = suc (s.station a).written in
        let t : State V = apply c f (StartWrite a v) s in
        new_stage a (Writing x 0) t nobody (adds t _ refl refl refl) (λ b. refl) (λ i k _ _ _ _ _ z. absurd (not_nobody i k (s.station i).stage z))
        (λ e l k q u w. absurd (omega (arith, w, bounded k q e))) (λ _ j y _ _. tt)
        (All-append (Asked (put a (Writing x 0) (stages s))) s.pool _ (turned a (Writing x 0) s.pool (λ _ j y _ _. tt) S.messages P.asked)
        (all_to_all (Asked (put a (Writing x 0) (stages s))) s.figures.stations (λ k. Init a k x v) (λ k. tt)))

    by_begin_read : (a b : ℕ) → Pending (apply c f (StartRead a b) s)
    by_begin_read a b =
        let r : ℕ = suc (s.reads a b) in
        let t : State V = apply c f (StartRead a b) s in
        new_stage a (Querying b r 0) t nobody (adds t _ refl refl refl) (λ d. refl) (λ i k _ _ _ _ _ z. absurd (not_nobody i k (s.station i).stage z))
        (λ e l k q u. inl (mem_right (Read a k b r) s.pool _ (mem_to_all (λ k. Read a k b r) s.figures.stations k (omega arith)))) (λ _ j y _ _. tt)
        (All-append (Asked (put a (Querying b r 0) (stages s))) s.pool _ (turned a (Querying b r 0) s.pool (λ _ j y _ _. tt) S.messages P.asked)
        (all_to_all (Asked (put a (Querying b r 0) (stages s))) s.figures.stations (λ k. Read a k b r) (λ k. tt)))

    by_freshen : (a b r reported : ℕ) → Pending (apply c f (Freshen a b r reported) s)
    by_freshen a b r reported =
        let x : ℕ = number s a b in
        let o : Stage V = Catching b x (s.cell a b).copy.value 0 in
        let t : State V = apply c f (Freshen a b r reported) s in
        new_stage a o t nobody (adds t _ refl refl refl) (λ d. refl) (λ i k _ _ _ _ _ z. absurd (not_nobody i k (s.station i).stage z))
        (λ e l k q u. inl (mem_right (CatchUp a k b x) s.pool _ (mem_to_all (λ k. CatchUp a k b x) s.figures.stations k (omega arith))))
        (λ _ j y l _ q. subst (λ z. y ≤ number s a z) (sym q) l)
        (All-append (Asked (put a o (stages s))) s.pool _ (turned a o s.pool (λ _ j y l _ q. subst (λ z. y ≤ number s a z) (sym q) l) S.messages P.asked)
        (all_to_all (Asked (put a o (stages s))) s.figures.stations (λ k. CatchUp a k b x) (λ k _. subst (AtMost b x) (sym (put_same (stages s) a o)) (λ _. omega arith))))

    -- an answer concerns its receiver's operation only
    abbrev Answering : Message V → Type 0
    Answering (Init k i x v) = ⊥
    Answering (Echo k i j x v) = ⊥
    Answering (Ready k i j x v) = ⊥
    Answering (WriteDone k i x) = Unit {0}
    Answering (Read k i j r) = ⊥
    Answering (StateOf k i j r x) = Unit {0}
    Answering (CatchUp k i j x) = ⊥
    Answering (CatchUpDone k i j x) = Unit {0}

    answers_concern : (i k : ℕ) (o : Stage V) (m : Message V) → Answering m → Concerns i k o m → i ≡ receiver m
    answers_concern i k Idle m a w = absurd w
    answers_concern i k (Writing x done) m a w = sym (ap receiver w)
    answers_concern i k (Querying j r reported) m a (inl w) = absurd (subst Answering w a)
    answers_concern i k (Querying j r reported) m a (inr w) = sym (ap receiver w.1)
    answers_concern i k (Catching j x v done) m a (inl w) = absurd (subst Answering w a)
    answers_concern i k (Catching j x v done) m a (inr w) = sym (ap receiver w)

    -- an answer of station k counts: k joins those that answered
    counts : (a : ℕ) (o o' : Stage V) (t : State V) (p : ℕ) (m₀ : Message V) → slice_get s.pool p ≡ Some m₀ → t.pool ≡ removed s.pool p → t.cell ≡ s.cell → t.held ≡ s.held
        → ((b : ℕ) → (t.station b).stage ≡ put a o' (stages s) b) → (s.station a).stage ≡ o → Answering m₀ → receiver m₀ ≡ a
        → ((k : ℕ) → Awaits s a k o → Awaits s a k o') → ((k : ℕ) → In f k → k < c.system.stations → Concerns a k o' m₀ → Awaits t a k o')
        → ((j x : ℕ) → AtMost j x o → AtMost j x o') → Pending t
    counts a o o' t p m₀ at ep ec eh es so answer to up new low =
        let w : Leaves s t m₀ = leaves t p m₀ [] at (ep ∙ sym (append-nil (removed s.pool p))) ec eh in
        let keep : In f a → (j x : ℕ) → x ≤ number s a j → AtMost j x (s.station a).stage → AtMost j x o' = λ _ j x _ z. low j x (subst (AtMost j x) so z) in
        new_stage a o' t m₀ w es
        (λ i k ne _ _ _ _ z. absurd (ne (answers_concern i k (s.station i).stage m₀ answer z ∙ to)))
        (λ e l k q u. awaits_on s t m₀ w a k e q o' (new k q u) (up k (subst (Awaits s a k) so (P.awaits a e l k q u))))
        keep (subst (All (Asked (put a o' (stages s)))) (sym ep) (turned a o' (removed s.pool p) keep (sincere_left p) (left p)))

    room : (k : ℕ) → k < c.system.stations → k < 16
    room k l = omega (arith, l, L.laws.sized)

    by_got_report : (p i k j r x reported : ℕ) → Guard c f (GotReport p i k j r x reported) s → Pending (apply c f (GotReport p i k j r x reported) s)
    by_got_report p i k j r x reported gd =
        counts i (Querying j r reported) (Querying j r (with_station reported k)) (apply c f (GotReport p i k j r x reported) s) p _ gd.3 refl refl refl (λ b. refl) gd.1 tt refl
        (λ a w. ⊎_elim inl (λ z. ⊎_elim (λ y. inr (inl y)) (λ y. inr (inr (joined_before reported k a y))) z) w)
        (λ a q u z. ⊎_elim (λ y. absurd (let y' : ◌≡◌ {A = Message V} (StateOf k i j r x) (Read i a j r) = y in grind arith))
        (λ y. let ka : k ≡ a = ap sender y.1 in inr (inr (subst (λ d. has (with_station reported d) a ≡ true) (sym ka) (joined reported a (room a u))))) z)
        (λ _ _ _. tt)

    by_got_done : (p i k x done : ℕ) → Guard c f (GotDone p i k x done) s → Pending (apply c f (GotDone p i k x done) s)
    by_got_done p i k x done gd =
        counts i (Writing x done) (Writing x (with_station done k)) (apply c f (GotDone p i k x done) s) p _ gd.2 refl refl refl (λ b. refl) gd.1 tt refl
        (λ a w l. ⊎_elim inl (λ y. inr (joined_before done k a y)) (w l))
        (λ a q u z _. let ka : k ≡ a = ap sender z in inr (subst (λ d. has (with_station done d) a ≡ true) (sym ka) (joined done a (room a u))))
        (λ _ _ _. tt)

    by_end_write : (p i k x done : ℕ) → Guard c f (EndWrite p i k x done) s → Pending (apply c f (EndWrite p i k x done) s)
    by_end_write p i k x done gd =
        counts i (Writing x done) Idle (apply c f (EndWrite p i k x done) s) p _ gd.2 refl refl refl (λ b. refl) gd.1 tt refl (λ _ _. tt) (λ _ _ _ _. tt) (λ _ _ _. tt)

    by_got_caught : (p i k j x : ℕ) (v : V) (done : ℕ) → Guard c f (GotCaught p i k j x v done) s → Pending (apply c f (GotCaught p i k j x v done) s)
    by_got_caught p i k j x v done gd =
        counts i (Catching j x v done) (Catching j x v (with_station done k)) (apply c f (GotCaught p i k j x v done) s) p _ gd.2 refl refl refl (λ b. refl) gd.1 tt refl
        (λ a w. ⊎_elim inl (λ z. ⊎_elim (λ y. inr (inl y)) (λ y. ⊎_elim (λ n. inr (inr (inl n))) (λ n. inr (inr (inr (joined_before done k a n)))) y) z) w)
        (λ a q u z. ⊎_elim (λ y. absurd (let y' : ◌≡◌ {A = Message V} (CatchUpDone k i j x) (CatchUp i a j x) = y in grind arith))
        (λ y. let ka : k ≡ a = ap sender y in inr (inr (inr (subst (λ d. has (with_station done d) a ≡ true) (sym ka) (joined done a (room a u)))))) z)
        (λ _ _ z. z)

    by_end_read : (p i k j x : ℕ) (v : V) (done : ℕ) → Guard c f (EndRead p i k j x v done) s → Pending (apply c f (EndRead p i k j x v done) s)
    by_end_read p i k j x v done gd =
        counts i (Catching j x v done) Idle (apply c f (EndRead p i k j x v done) s) p _ gd.2 refl refl refl (λ b. refl) gd.1 tt refl (λ _ _. tt) (λ _ _ _ _. tt) (λ _ _ _. tt)

    -- a question is answered at once
    by_report : (p i k j r : ℕ) → Guard c f (Report p i k j r) s → Pending (apply c f (Report p i k j r) s)
    by_report p i k j r gd =
        let n : ℕ = number s i j in
        let t : State V = apply c f (Report p i k j r) s in
        same_stages t (Read k i j r) (leaves t p (Read k i j r) (StateOf i k j r n ∷ []) gd.1 refl refl refl) (λ a _. refl)
        (λ a b _ _ _ _ z. told a b (s.station a).stage z)
        (All-push (Asked (stages s)) (removed s.pool p) _ (left p) tt)
      where
        told : (a b : ℕ) (o : Stage V) → Concerns a b o (Read k i j r) → Awaits (apply c f (Report p i k j r) s) a b o
        told a b Idle z = tt
        told a b (Writing x done) z = absurd (let z' : ◌≡◌ {A = Message V} (Read k i j r) (WriteDone b a x) = z in grind arith)
        told a b (Querying j' r' reported) (inl z) =
            let same : ◌≡◌ {A = Message V} (Read k i j r) (Read a b j' r') = z in
            let ea : k ≡ a = cc in
            let eb : i ≡ b = cc in
            let ej : j ≡ j' = cc in
            let er : r ≡ r' = cc in
            inr (inl (
              number s i j,
              subst (λ d. Mem (StateOf b d j' r' (number s i j)) (removed s.pool p ++ StateOf i k j r (number s i j) ∷ [])) ea
                  (subst (λ d. Mem (StateOf d k j' r' (number s i j)) (removed s.pool p ++ StateOf i k j r (number s i j) ∷ [])) eb
                  (mem_right (StateOf i k j' r' (number s i j)) (removed s.pool p) _ (inl (ap₂ (λ d g. StateOf i k d g (number s i j)) ej er)))),
            ))
        told a b (Querying j' r' reported) (inr z) = absurd (let z' : ◌≡◌ {A = Message V} (Read k i j r) (StateOf b a j' r' z.0) = z.1 in grind arith)
        told a b (Catching j' x v done) (inl z) = absurd (let z' : ◌≡◌ {A = Message V} (Read k i j r) (CatchUp a b j' x) = z in grind arith)
        told a b (Catching j' x v done) (inr z) = absurd (let z' : ◌≡◌ {A = Message V} (Read k i j r) (CatchUpDone b a j' x) = z in grind arith)

    by_answer : (p i k j x : ℕ) → Guard c f (AnswerNow p i k j x) s → Pending (apply c f (AnswerNow p i k j x) s)
    by_answer p i k j x gd =
        let t : State V = apply c f (AnswerNow p i k j x) s in
        same_stages t (CatchUp k i j x) (leaves t p (CatchUp k i j x) (CatchUpDone i k j x ∷ []) gd.1 refl refl refl) (λ a _. refl)
        (λ a b _ _ _ _ z. told a b (s.station a).stage z)
        (All-push (Asked (stages s)) (removed s.pool p) _ (left p) tt)
      where
        told : (a b : ℕ) (o : Stage V) → Concerns a b o (CatchUp k i j x) → Awaits (apply c f (AnswerNow p i k j x) s) a b o
        told a b Idle z = tt
        told a b (Writing y done) z = absurd (let z' : ◌≡◌ {A = Message V} (CatchUp k i j x) (WriteDone b a y) = z in grind arith)
        told a b (Querying j' r reported) (inl z) = absurd (let z' : ◌≡◌ {A = Message V} (CatchUp k i j x) (Read a b j' r) = z in grind arith)
        told a b (Querying j' r reported) (inr z) = absurd (let z' : ◌≡◌ {A = Message V} (CatchUp k i j x) (StateOf b a j' r z.0) = z.1 in grind arith)
        told a b (Catching j' y v done) (inl z) =
            let same : ◌≡◌ {A = Message V} (CatchUp k i j x) (CatchUp a b j' y) = z in
            let ea : k ≡ a = cc in
            let eb : i ≡ b = cc in
            let ej : j ≡ j' = cc in
            let ey : x ≡ y = cc in
            inr (inr (inl (subst (λ d. Mem (CatchUpDone b d j' y) (removed s.pool p ++ CatchUpDone i k j x ∷ [])) ea
            (subst (λ d. Mem (CatchUpDone d k j' y) (removed s.pool p ++ CatchUpDone i k j x ∷ [])) eb
            (mem_right (CatchUpDone i k j' y) (removed s.pool p) _ (inl (ap₂ (λ d g. CatchUpDone i k d g) ej ey)))))))
        told a b (Catching j' y v done) (inr z) = absurd (let z' : ◌≡◌ {A = Message V} (CatchUp k i j x) (CatchUpDone b a j' y) = z in grind arith)

    -- a question is held: it is the greatest that its station asks
    by_hold : (p i k j x : ℕ) → Guard c f (Hold p i k j x) s → Pending (apply c f (Hold p i k j x) s)
    by_hold p i k j x gd =
        record {
          awaits = λ a e l b q u. on a b e q (s.station a).stage refl (P.awaits a e l b q u);
          asked = left p;
          held_low = λ a b d e q.
              put_triple_else (λ a b d y. In f a → In f b → y ≤ number s b d) i k j H s.held (λ a b d _ e q. P.held_low a b d e q)
              (λ e q. omega (arith, P.held_low i k j e q, all_nth (SincereMessage c f v₀ (known s h)) s.pool p _ S.messages gd.1 q)) a b d e q;
          held_asked = λ a b d e q.
              put_triple_else (λ a b d y. In f a → In f b → AtMost d y (s.station b).stage) i k j H s.held (λ a b d _ e q. P.held_asked a b d e q)
              (λ e q. larger j (s.held i k j) x (s.station k).stage (P.held_asked i k j e q) (all_nth (Asked (stages s)) s.pool p _ P.asked gd.1 q)) a b d e q;
        }
      where
        H : ℕ
        H = max (s.held i k j) x

        t : State V
        t = apply c f (Hold p i k j x) s

        larger : (d y z : ℕ) (o : Stage V) → AtMost d y o → AtMost d z o → AtMost d (max y z) o
        larger d y z Idle a b = tt
        larger d y z (Writing w done) a b = tt
        larger d y z (Querying w r reported) a b = tt
        larger d y z (Catching w u v done) a b = λ e. omega (arith, a e, b e)

        keep : (m : Message V) → ((CatchUp k i j x ≡ m) → ⊥) → Mem m s.pool → Mem m (removed s.pool p)
        keep m ne w = ⊎_elim (λ z. absurd (ne z)) (λ z. z) (mem_removed m (CatchUp k i j x) s.pool p gd.1 w)

        -- what is held at the entry is the number that its station is catching
        now_held : (v : V) (done y : ℕ) → In f i → In f k → (s.station k).stage ≡ Catching j y v done → x ≡ y → H ≡ y
        now_held v done y e q so xy = omega (arith, xy, subst (AtMost j (s.held i k j)) so (P.held_asked i k j e q) refl)

        still_held : (a b d y : ℕ) (v : V) (done : ℕ) → In f a → In f b → (s.station a).stage ≡ Catching d y v done → s.held b a d ≡ y → t.held b a d ≡ y
        still_held a b d y v done e q so w =
            put_triple_else (λ b a d z. In f b → In f a → (s.station a).stage ≡ Catching d y v done → s.held b a d ≡ y → z ≡ y) i k j H s.held (λ b a d _ _ _ _ w. w)
            (λ q e so w. let asks = subst (AtMost j x) so (all_nth (Asked (stages s)) s.pool p _ P.asked gd.1 e) refl in omega (arith, w, asks)) b a d q e so w

        on : (a b : ℕ) → In f a → In f b → (o : Stage V) → (s.station a).stage ≡ o → Awaits s a b o → Awaits t a b o
        on a b e q Idle so w = tt
        on a b e q (Writing y done) so w = λ l. ⊎_elim (λ m. inl (keep (WriteDone b a y) (λ z. grind arith) m)) inr (w l)
        on a b e q (Querying d r reported) so w =
            ⊎_elim (λ m. inl (keep (Read a b d r) (λ z. grind arith) m))
            (λ y. ⊎_elim (λ m. inr (inl (m.0, keep (StateOf b a d r m.0) (λ z. grind arith) m.1))) (λ m. inr (inr m)) y) w
        on a b e q (Catching d y v done) so w =
            ⊎_elim
            (λ m. ⊎_elim
            (λ same.
            let same' : ◌≡◌ {A = Message V} (CatchUp k i j x) (CatchUp a b d y) = same in
            let ea : k ≡ a = cc in
            let eb : i ≡ b = cc in
            let ed : j ≡ d = cc in
            let ey : x ≡ y = cc in
            let so' : (s.station k).stage ≡ Catching j y v done = ap (stages s) ea ∙ so ∙ ap (λ z. Catching z y v done) (sym ed) in
            let nh : t.held i k j ≡ y =
            put_triple_else (λ a b d z. (a ≡ i) × (b ≡ k) × (d ≡ j) → z ≡ y) i k j H s.held (λ a b d ne z. absurd (ne z))
            (λ _. now_held v done y (subst (In f) (sym eb) q) (subst (In f) (sym ea) e) so' ey) i k j (refl, refl, refl) in
            inr (inl (
              ap (λ z. t.held z a d) (sym eb) ∙ ap (λ z. t.held i z d) (sym ea) ∙ ap (t.held i k) (sym ed) ∙ nh,
              subst (λ z. number s z d < y) eb (subst (λ z. number s i z < y) ed (omega (arith, gd.2))),
            )))
            inl (mem_removed (CatchUp a b d y) (CatchUp k i j x) s.pool p gd.1 m))
            (λ z. ⊎_elim
            (λ m. inr (inl (still_held a b d y v done e q so m.0, m.1)))
            (λ m. ⊎_elim (λ g. inr (inr (inl (keep (CatchUpDone b a d y) (λ n. grind arith) g)))) (λ g. inr (inr (inr g))) m) z) w

    -- a value is taken: the owner is told, and those who asked for just this number are answered
    by_take_value : (a b : ℕ) (v : V) → Pending (apply c f (TakeValue a b v) s)
    by_take_value a b v =
        record {
          awaits = λ i e l k q u. on i k e q l (s.station i).stage (P.awaits i e l k q u);
          asked = All-append (Asked (stages s)) s.pool _ P.asked
              (all_and_each (Asked (stages s)) _ (λ k. CatchUpDone a k b x) _ tt (λ k. tt));
          held_low = λ k i j e q. omega (arith, released k i j, P.held_low k i j e q, up i j);
          held_asked = λ k i j e q. at_most_low j (s.held k i j) (t.held k i j) (s.station i).stage (released k i j) (P.held_asked k i j e q);
        }
      where
        x : ℕ
        x = suc (number s a b)

        t : State V
        t = apply c f (TakeValue a b v) s

        released : (k i j : ℕ) → t.held k i j ≤ s.held k i j
        released k i j = cond_both _ 0 (s.held k i j) (λ z. z ≤ s.held k i j) (λ _. omega arith) (λ _. omega arith)

        at_entry : (k j : ℕ) → (k ≡ a) × (j ≡ b) → number t k j ≡ x
        at_entry k j q = ap₂ (λ y z. number t y z) q.0 q.1 ∙ ap (λ (z : Cell V). z.copy.number) (put_pair_same s.cell a b (fresh_cell v x))

        elsewhere : (k j : ℕ) → ((k ≡ a) × (j ≡ b) → ⊥) → number t k j ≡ number s k j
        elsewhere k j ne = ap (λ (z : Cell V). z.copy.number) (put_pair_other s.cell a b (fresh_cell v x) k j ne)

        pair : (k j : ℕ) → ((k ≡ a) × (j ≡ b)) ⊎ ((k ≡ a) × (j ≡ b) → ⊥)
        pair k j = ⊎_elim (λ p. ⊎_elim (λ q. inl (p, q)) (λ n. inr (λ z. n z.1)) (cases_eq j b)) (λ n. inr (λ z. n z.0)) (cases_eq k a)

        up : (k j : ℕ) → number s k j ≤ number t k j
        up k j = ⊎_elim (λ q. omega (arith, at_entry k j q, ap₂ (number s) q.0 q.1)) (λ ne. omega (arith, elsewhere k j ne)) (pair k j)

        stays : (m : Message V) → Mem m s.pool → Mem m t.pool
        stays m w = mem_left m s.pool _ w

        kept_held : (k i j y : ℕ) → s.held k i j ≡ y → ((k ≡ a) × (j ≡ b) → y ≡ x → ⊥) → t.held k i j ≡ y
        kept_held k i j y w ne =
            cond_both _ 0 (s.held k i j) (λ z. z ≡ y)
            (λ z. let p = and_parts _ _ z in let q = and_parts _ _ p.1 in absurd (ne (eqb-true k a p.0, eqb-true j b q.0) (sym w ∙ eqb-true (s.held k i j) x q.1))) (λ _. w)

        -- station i awaited just this number of station a
        answered : (i : ℕ) → i < c.system.stations → s.held a i b ≡ x → Mem (CatchUpDone a i b x) t.pool
        answered i l w =
            mem_right (CatchUpDone a i b x) s.pool _
            (inr (mem_map (λ k. CatchUpDone a k b x) i _ (mem_kept (λ k. eqb (s.held a k b) x) i (range_with_len 0 s.figures.stations) (eq-eqb (s.held a i b) x w)
            (mem_counting 0 s.figures.stations i (omega arith) (omega (arith, l, sized))))))

        on : (i k : ℕ) → In f i → In f k → i < c.system.stations → (o : Stage V) → Awaits s i k o → Awaits t i k o
        on i k e q l Idle w = tt
        on i k e q l (Writing y done) w = λ u.
            ⊎_elim
            (λ new. ⊎_elim
            (λ p. let ey : y ≡ x = omega (arith, u, at_entry k i p, new, ap₂ (number s) p.0 p.1) in
            inl (mem_right (WriteDone k i y) s.pool _ (inl (ap₂ (λ m n. WriteDone m n x) (sym p.0) (sym p.1) ∙ ap (λ z. WriteDone k i z) (sym ey)))))
            (λ ne. absurd (omega (arith, u, elsewhere k i ne, new))) (pair k i))
            (λ old. ⊎_elim (λ m. inl (stays (WriteDone k i y) m)) inr (w old))
            (cases_lt (number s k i) y)
        on i k e q l (Querying j r reported) w =
            ⊎_elim (λ m. inl (stays (Read i k j r) m)) (λ y. ⊎_elim (λ m. inr (inl (m.0, stays (StateOf k i j r m.0) m.1))) (λ m. inr (inr m)) y) w
        on i k e q l (Catching j y u done) w =
            ⊎_elim (λ m. inl (stays (CatchUp i k j y) m))
            (λ z. ⊎_elim
            (λ m. ⊎_elim
            (λ p. ⊎_elim
            (λ same. inr (inr (inl (subst (λ n. Mem (CatchUpDone n i j y) t.pool) (sym p.0) (subst (λ n. Mem (CatchUpDone a i n y) t.pool) (sym p.1)
            (subst (λ n. Mem (CatchUpDone a i b n) t.pool) (sym same) (answered i l (ap₂ (λ m n. s.held m i n) (sym p.0) (sym p.1) ∙ m.0 ∙ same))))))))
            (λ other. inr (inl (kept_held k i j y m.0 (λ _ same. other same), omega (arith, m.1, at_entry k j p, ap₂ (number s) p.0 p.1, other))))
            (cases_eq y x))
            (λ ne. inr (inl (kept_held k i j y m.0 (λ p _. ne p), omega (arith, m.1, elsewhere k j ne)))) (pair k j))
            (λ m. ⊎_elim (λ g. inr (inr (inl (stays (CatchUpDone k i j y) g)))) (λ g. inr (inr (inr g))) m) z) w

    -- where no station inside is farther with a register inside than its owner has written
    pub act_pending : ((k i : ℕ) → In f k → In f i → number s k i ≤ (s.station i).written) → (a : Act V) → Guard c f a s → Pending (apply c f a s)
    act_pending bounded (Elsewhere t) gd = by_foreign t gd
    act_pending bounded (Drop p m) gd = by_drop p m gd.0 gd.1
    act_pending bounded (StartWrite i v) gd = by_begin_write i v (λ k e q. bounded k i e q)
    act_pending bounded (StartRead i j) gd = by_begin_read i j
    act_pending bounded (SendEcho p i j v) gd = by_casts _ (casts_send_echo c f p i j v s gd)
    act_pending bounded (GotEcho p i j k v) gd = by_casts _ (casts_got_echo c f p i j k v s gd)
    act_pending bounded (GotReady p i j k v) gd = by_casts _ (casts_got_ready c f p i j k v s gd)
    act_pending bounded (SendReady i j v) gd = by_casts _ (casts_send_ready c f i j v s)
    act_pending bounded (TakeValue i j v) gd = by_take_value i j v
    act_pending bounded (GotReport p i k j r x reported) gd = by_got_report p i k j r x reported gd
    act_pending bounded (Freshen i j r reported) gd = by_freshen i j r reported
    act_pending bounded (GotDone p i k x done) gd = by_got_done p i k x done gd
    act_pending bounded (EndWrite p i k x done) gd = by_end_write p i k x done gd
    act_pending bounded (GotCaught p i k j x v done) gd = by_got_caught p i k j x v done gd
    act_pending bounded (EndRead p i k j x v done) gd = by_end_read p i k j x v done gd
    act_pending bounded (Report p i k j r) gd = by_report p i k j r gd
    act_pending bounded (AnswerNow p i k j x) gd = by_answer p i k j x gd
    act_pending bounded (Hold p i k j x) gd = by_hold p i k j x gd

  pub pending_opened : (o : Opening V) → Pending (opened c o)
  pending_opened o = record { awaits = λ i e l k q u. tt; asked = All-nil (Asked (stages (opened c o))); held_low = λ k i j e q. omega arith; held_asked = λ k i j e q. tt }
