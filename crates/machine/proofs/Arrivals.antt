-- The broadcast: what a station inside sent to another waits, or has had its effect.
use Rattle.std.proofs.Common.{◌≡◌, ℕ, suc, ◌<◌, ◌≤◌, true, ◌⊎◌, List, [], ◌++◌, Some, Option, sym, refl, ap, ◌∙◌, subst, inl, inr, ⊎_elim, append-nil, arith}
use Rattle.std.specs.List.{remove as removed, slice_get}
use Rattle.std.proofs.lemmas.Bool.{both_ways}
use Rattle.station_set.specs.Sets.{has}
use Rattle.machine.specs.declared.message.Message.{Message}
use Rattle.machine.specs.declared.message.Message.TheVariants.{Init, Echo, Ready, WriteDone, Read, State as StateOf, CatchUp, CatchUpDone}
use Rattle.machine.specs.State.{Setting, Lawful, Cell, State, number, put, put_pair, remove, to_all, fresh_cell}
use Rattle.machine.specs.Publishing.{mark_echoed, mark_readied, vote_echo, vote_ready}
use Rattle.machine.specs.Calls.{sender, receiver, opened}
use Rattle.machine.specs.declared.call.Opening.{Opening}
use Rattle.machine.proofs.Tables.{put_same, put_grows, put_pair_all, put_pair_same, put_pair_from, stands_put, Mem, mem_left, mem_right, mem_to_all, mem_removed, all_nth, is_there}
use Rattle.machine.proofs.Pools.{swap_mem}
use Rattle.machine.proofs.Acts.{Act, Elsewhere, Drop, StartWrite, StartRead, SendEcho, GotEcho, GotReady, SendReady, TakeValue, GotReport, Freshen, GotDone, EndWrite, GotCaught, EndRead, Report, AnswerNow, Hold}
use Rattle.machine.proofs.Acts.{In, apply, Guard, Foreign, Spent}
use Rattle.machine.proofs.Frames.{Casting, Asking, Asks, asks_begin_read, asks_got_report, asks_freshen, asks_got_done, asks_end_write, asks_got_caught, asks_end_read, asks_report, asks_answer, asks_hold, kinds_apart}
use Rattle.machine.proofs.History.{History, no_history, note}
use Rattle.machine.proofs.Voices.{Truthful, Honest}

module _ {V : Type 0} (c : Setting V) (L : Lawful c) (f : ℕ) (ok : c.system.allowed f ≡ true) (v₀ : V) where
  -- a publication is past, or it is the one at work and P holds of it
  abbrev PastOr : Cell V → ℕ → Type 0 → Type 0
  PastOr z x P = (x ≤ z.copy.number) ⊎ ((x ≡ suc z.copy.number) × P)

  -- a message of the broadcast has had its effect at its receiver
  abbrev pub Heeded : State V → Message V → Type 0
  Heeded s (Init k i x v) = PastOr (s.cell i k) x ((s.cell i k).copy.echoed ≡ true)
  Heeded s (Echo k i j x v) = PastOr (s.cell i j) x ((s.cell i j).echoes k ≡ Some v)
  Heeded s (Ready k i j x v) = PastOr (s.cell i j) x ((s.cell i j).readies k ≡ Some v)
  Heeded s (WriteDone k i x) = Unit {0}
  Heeded s (Read k i j r) = Unit {0}
  Heeded s (StateOf k i j r x) = Unit {0}
  Heeded s (CatchUp k i j x) = Unit {0}
  Heeded s (CatchUpDone k i j x) = Unit {0}

  abbrev Arrives : State V → Message V → Type 0
  Arrives s m = Mem m s.pool ⊎ Heeded s m

  pub record Arrivals (s : State V) (h : History V) : Type 0 where
    pub inits : (k i x : ℕ) (v : V) → In f k → In f i → i < c.system.stations → h.published k x ≡ Some v → Arrives s (Init k i x v)
    pub echoes : (k i j x : ℕ) (v : V) → In f k → In f i → i < c.system.stations → h.echoed k j x ≡ Some v → Arrives s (Echo k i j x v)
    pub readies : (k i j x : ℕ) (v : V) → In f k → In f i → i < c.system.stations → h.readied k j x ≡ Some v → Arrives s (Ready k i j x v)

  -- how a cell may change: it keeps what it has, or goes on to the next publication
  record KeepsAll (z z' : Cell V) : Type 0 where
    number_is : z.copy.number ≡ z'.copy.number
    echoed_stays : z.copy.echoed ≡ true → z'.copy.echoed ≡ true
    echoes_stay : (k : ℕ) (v : V) → z.echoes k ≡ Some v → z'.echoes k ≡ Some v
    readies_stay : (k : ℕ) (v : V) → z.readies k ≡ Some v → z'.readies k ≡ Some v

  abbrev Moves : Cell V → Cell V → Type 0
  Moves z z' = KeepsAll z z' ⊎ (z'.copy.number ≡ suc z.copy.number)

  moves_none : (z : Cell V) → Moves z z
  moves_none z = inl (record { number_is = refl; echoed_stays = λ e. e; echoes_stay = λ k v e. e; readies_stay = λ k v e. e })

  past_on : (z z' : Cell V) (x : ℕ) (P Q : Type 0) → Moves z z' → (KeepsAll z z' → P → Q) → PastOr z x P → PastOr z' x Q
  past_on z z' x P Q (inl w) g (inl l) = inl (omega (arith, w.number_is))
  past_on z z' x P Q (inl w) g (inr p) = inr (omega (arith, w.number_is, p.0), g w p.1)
  past_on z z' x P Q (inr w) g (inl l) = inl (omega arith)
  past_on z z' x P Q (inr w) g (inr p) = inl (omega (arith, p.0))

  heeded_on : (s t : State V) → ((i j : ℕ) → In f i → Moves (s.cell i j) (t.cell i j)) → (m : Message V) → In f (receiver m) → Heeded s m → Heeded t m
  heeded_on s t w (Init k i x v) e h = past_on (s.cell i k) (t.cell i k) x _ _ (w i k e) (λ z q. z.echoed_stays q) h
  heeded_on s t w (Echo k i j x v) e h = past_on (s.cell i j) (t.cell i j) x _ _ (w i j e) (λ z q. z.echoes_stay k v q) h
  heeded_on s t w (Ready k i j x v) e h = past_on (s.cell i j) (t.cell i j) x _ _ (w i j e) (λ z q. z.readies_stay k v q) h
  heeded_on s t w (WriteDone k i x) e h = tt
  heeded_on s t w (Read k i j r) e h = tt
  heeded_on s t w (StateOf k i j r x) e h = tt
  heeded_on s t w (CatchUp k i j x) e h = tt
  heeded_on s t w (CatchUpDone k i j x) e h = tt

  -- what arrives at one moment arrives at the next
  abbrev Goes_on : State V → State V → Type 0
  Goes_on s t = (m : Message V) → Casting m → In f (sender m) → In f (receiver m) → Arrives s m → Arrives t m

  module _ (s : State V) (h : History V) (T : Truthful c L f ok v₀ s h) (A : Arrivals s h) where
    -- nothing new was said
    nothing_new : (t : State V) → Goes_on s t → Arrivals t h
    nothing_new t g =
        record {
          inits = λ k i x v e q l p. g (Init k i x v) tt e q (A.inits k i x v e q l p);
          echoes = λ k i j x v e q l p. g (Echo k i j x v) tt e q (A.echoes k i j x v e q l p);
          readies = λ k i j x v e q l p. g (Ready k i j x v) tt e q (A.readies k i j x v e q l p);
        }

    by_foreign : (t : State V) → Foreign c f s t → Goes_on s t
    by_foreign t w m cast e q (inl p) =
        inl (swap_mem (λ m. has f (sender m) ≡ true) _ s.pool t.pool w.pool_change m (λ d. ⊎_elim (λ x. both_ways _ e x) (λ x. both_ways _ q x) d) p)
    by_foreign t w m cast e q (inr p) =
        inr (heeded_on s t (λ i j u. subst (Moves (s.cell i j)) (sym (w.cell_same i j u)) (moves_none (s.cell i j))) m q p)

    by_asks : (t : State V) → Asks c f s t → Goes_on s t
    by_asks t w m cast e q (inl p) = inl (swap_mem Asking _ s.pool t.pool w.pool_change m (kinds_apart m cast) p)
    by_asks t w m cast e q (inr p) =
        inr (heeded_on s t (λ i j u. subst (Moves (s.cell i j)) (sym (w.cell_same i j)) (moves_none (s.cell i j))) m q p)

    -- messages join, and one cell moves
    joins : (t : State V) (l : List (Message V)) → t.pool ≡ s.pool ++ l → ((i j : ℕ) → In f i → Moves (s.cell i j) (t.cell i j)) → Goes_on s t
    joins t l e w m cast u q (inl p) = inl (subst (Mem m) (sym e) (mem_left m s.pool l p))
    joins t l e w m cast u q (inr p) = inr (heeded_on s t w m q p)

    -- one message is taken, which has its effect
    takes : (t : State V) (p : ℕ) (m₀ : Message V) → slice_get s.pool p ≡ Some m₀ → (l : List (Message V)) → t.pool ≡ removed s.pool p ++ l
        → ((i j : ℕ) → In f i → Moves (s.cell i j) (t.cell i j)) → (In f (sender m₀) → In f (receiver m₀) → Heeded t m₀) → Goes_on s t
    takes t p m₀ at l e w d m cast u q (inl r) =
        ⊎_elim (λ same. inr (subst (Heeded t) same (d (subst (λ z. In f (sender z)) (sym same) u) (subst (λ z. In f (receiver z)) (sym same) q))))
        (λ k. inl (subst (Mem m) (sym e) (mem_left m (removed s.pool p) l k))) (mem_removed m m₀ s.pool p at r)
    takes t p m₀ at l e w d m cast u q (inr r) = inr (heeded_on s t w m q r)

    one_cell : (i j : ℕ) (z : Cell V) → Moves (s.cell i j) z → (a b : ℕ) → In f a → Moves (s.cell a b) (put_pair i j z s.cell a b)
    one_cell i j z w a b e = put_pair_all (λ a b y. Moves (s.cell a b) y) i j z s.cell (λ a b. moves_none (s.cell a b)) w a b

    -- a message that has no effect had it before: a first vote is the only one that its station cast
    spent : (m : Message V) → Honest c L f ok v₀ h m → In f (sender m) → In f (receiver m) → Spent c f s m → Heeded s m
    spent (Init k i x v) g e q w = w
    spent (Echo k i j x v) g e q (inl l) = inl l
    spent (Echo k i j x v) g e q (inr w) =
        let o = is_there ((s.cell i j).echoes k) w.1 in
        let a = (T.votes i j q).echo_votes k o.0 o.1 e in
        let z : Some o.0 ≡ Some v = sym a ∙ ap (h.echoed k j) (sym w.0) ∙ g e in
        inr (w.0, o.1 ∙ z)
    spent (Ready k i j x v) g e q (inl l) = inl l
    spent (Ready k i j x v) g e q (inr w) =
        let o = is_there ((s.cell i j).readies k) w.1 in
        let a = (T.votes i j q).ready_votes k o.0 o.1 e in
        let z : Some o.0 ≡ Some v = sym a ∙ ap (h.readied k j) (sym w.0) ∙ g e in
        inr (w.0, o.1 ∙ z)
    spent (WriteDone k i x) g e q w = tt
    spent (Read k i j r) g e q w = tt
    spent (StateOf k i j r x) g e q w = tt
    spent (CatchUp k i j x) g e q w = tt
    spent (CatchUpDone k i j x) g e q w = tt

    by_drop : (p : ℕ) (m₀ : Message V) → slice_get s.pool p ≡ Some m₀ → Spent c f s m₀ → Goes_on s (remove p s)
    by_drop p m₀ at w =
        takes (remove p s) p m₀ at [] (sym (append-nil (removed s.pool p))) (λ i j _. moves_none (s.cell i j))
        (λ e q. spent m₀ (all_nth (Honest c L f ok v₀ h) s.pool p m₀ T.honest at) e q w)

    module _ (sized : s.figures.stations ≡ c.system.stations) where
      by_begin_write : (i : ℕ) (v : V) → Guard c f (StartWrite i v) s → Arrivals (apply c f (StartWrite i v) s) (note c f v₀ (StartWrite i v) s h)
      by_begin_write i v gd =
          let x : ℕ = suc (s.station i).written in
          let t : State V = apply c f (StartWrite i v) s in
          let g : Goes_on s t = joins t _ refl (λ a b _. moves_none (s.cell a b)) in
          record {
            inits = λ k a y u e q l p. ⊎_elim
                (λ old. g (Init k a y u) tt e q (A.inits k a y u e q l old))
                (λ new. inl (mem_right (Init k a y u) s.pool _
                (subst (λ m. Mem m (to_all s.figures.stations (λ b. Init i b x v)))
                (ap (λ z. Init z a x v) (sym new.0) ∙ ap (λ z. Init k a z v) (sym new.1) ∙ ap (Init k a y) new.2)
                (mem_to_all (λ b. Init i b x v) s.figures.stations a (omega arith)))))
                (put_pair_from h.published i x v k y u p);
            echoes = λ k a j y u e q l p. g (Echo k a j y u) tt e q (A.echoes k a j y u e q l p);
            readies = λ k a j y u e q l p. g (Ready k a j y u) tt e q (A.readies k a j y u e q l p);
          }

      by_send_echo : (p i j : ℕ) (v : V) → Guard c f (SendEcho p i j v) s → Arrivals (apply c f (SendEcho p i j v) s) (note c f v₀ (SendEcho p i j v) s h)
      by_send_echo p i j v gd =
          let x : ℕ = suc (number s i j) in
          let t : State V = apply c f (SendEcho p i j v) s in
          let E : ℕ → Option V = put x (Some v) (h.echoed i j) in
          let z : Cell V = mark_echoed (s.cell i j) in
          let g : Goes_on s t =
          takes t p _ gd.2 _ refl (one_cell i j z (inl (record { number_is = refl; echoed_stays = λ _. refl; echoes_stay = λ k u q. q; readies_stay = λ k u q. q })))
          (λ _ _. subst (λ (y : Cell V). PastOr y x (y.copy.echoed ≡ true)) (sym (put_pair_same s.cell i j z)) (inr (refl, refl))) in
          record {
            inits = λ k a y u e q l r. g (Init k a y u) tt e q (A.inits k a y u e q l r);
            echoes = λ k a b y u e q l r.
                put_pair_all (λ k b (o : ℕ → Option V). In f k → (y : ℕ) (u : V) → o y ≡ Some u → Arrives t (Echo k a b y u)) i j E h.echoed
                (λ k b e y u r. g (Echo k a b y u) tt e q (A.echoes k a b y u e q l r))
                (λ e. stands_put (λ y u. Arrives t (Echo i a j y u)) (h.echoed i j) x v (λ y u r. g (Echo i a j y u) tt e q (A.echoes i a j y u e q l r))
                (inl (mem_right (Echo i a j x v) (removed s.pool p) _ (mem_to_all (λ b. Echo i b j x v) s.figures.stations a (omega arith)))))
                k b e y u r;
            readies = λ k a b y u e q l r. g (Ready k a b y u) tt e q (A.readies k a b y u e q l r);
          }

      by_send_ready : (i j : ℕ) (v : V) → Guard c f (SendReady i j v) s → Arrivals (apply c f (SendReady i j v) s) (note c f v₀ (SendReady i j v) s h)
      by_send_ready i j v gd =
          let x : ℕ = suc (number s i j) in
          let t : State V = apply c f (SendReady i j v) s in
          let E : ℕ → Option V = put x (Some v) (h.readied i j) in
          let g : Goes_on s t =
          joins t _ refl (one_cell i j (mark_readied (s.cell i j)) (inl (record { number_is = refl; echoed_stays = λ q. q; echoes_stay = λ k u q. q; readies_stay = λ k u q. q }))) in
          record {
            inits = λ k a y u e q l r. g (Init k a y u) tt e q (A.inits k a y u e q l r);
            echoes = λ k a b y u e q l r. g (Echo k a b y u) tt e q (A.echoes k a b y u e q l r);
            readies = λ k a b y u e q l r.
                put_pair_all (λ k b (o : ℕ → Option V). In f k → (y : ℕ) (u : V) → o y ≡ Some u → Arrives t (Ready k a b y u)) i j E h.readied
                (λ k b e y u r. g (Ready k a b y u) tt e q (A.readies k a b y u e q l r))
                (λ e. stands_put (λ y u. Arrives t (Ready i a j y u)) (h.readied i j) x v (λ y u r. g (Ready i a j y u) tt e q (A.readies i a j y u e q l r))
                (inl (mem_right (Ready i a j x v) s.pool _ (mem_to_all (λ b. Ready i b j x v) s.figures.stations a (omega arith)))))
                k b e y u r;
          }

      by_got_echo : (p i j k : ℕ) (v : V) → Guard c f (GotEcho p i j k v) s → Goes_on s (apply c f (GotEcho p i j k v) s)
      by_got_echo p i j k v gd =
          let z : Cell V = vote_echo k v (s.cell i j) in
          takes (apply c f (GotEcho p i j k v) s) p _ gd.2 [] (sym (append-nil (removed s.pool p)))
          (one_cell i j z (inl (record { number_is = refl; echoed_stays = λ q. q; echoes_stay = put_grows (s.cell i j).echoes k v gd.1; readies_stay = λ k u q. q })))
          (λ _ _. subst (λ (y : Cell V). PastOr y (suc (number s i j)) (y.echoes k ≡ Some v)) (sym (put_pair_same s.cell i j z)) (inr (refl, put_same (s.cell i j).echoes k (Some v))))

      by_got_ready : (p i j k : ℕ) (v : V) → Guard c f (GotReady p i j k v) s → Goes_on s (apply c f (GotReady p i j k v) s)
      by_got_ready p i j k v gd =
          let z : Cell V = vote_ready k v (s.cell i j) in
          takes (apply c f (GotReady p i j k v) s) p _ gd.2 [] (sym (append-nil (removed s.pool p)))
          (one_cell i j z (inl (record { number_is = refl; echoed_stays = λ q. q; readies_stay = put_grows (s.cell i j).readies k v gd.1; echoes_stay = λ k u q. q })))
          (λ _ _. subst (λ (y : Cell V). PastOr y (suc (number s i j)) (y.readies k ≡ Some v)) (sym (put_pair_same s.cell i j z)) (inr (refl, put_same (s.cell i j).readies k (Some v))))

      by_take_value : (i j : ℕ) (v : V) → Arrivals (apply c f (TakeValue i j v) s) (note c f v₀ (TakeValue i j v) s h)
      by_take_value i j v =
          let t : State V = apply c f (TakeValue i j v) s in
          let g : Goes_on s t = joins t _ refl (one_cell i j (fresh_cell v (suc (number s i j))) (inr refl)) in
          record {
            inits = λ k a y u e q l r. g (Init k a y u) tt e q (A.inits k a y u e q l r);
            echoes = λ k a b y u e q l r. g (Echo k a b y u) tt e q (A.echoes k a b y u e q l r);
            readies = λ k a b y u e q l r. g (Ready k a b y u) tt e q (A.readies k a b y u e q l r);
          }

      pub act_arrivals : (a : Act V) → Guard c f a s → Arrivals (apply c f a s) (note c f v₀ a s h)
      act_arrivals (Elsewhere t) gd = nothing_new t (by_foreign t gd)
      act_arrivals (Drop p m) gd = nothing_new (apply c f (Drop p m) s) (by_drop p m gd.0 gd.1)
      act_arrivals (StartWrite i v) gd = by_begin_write i v gd
      act_arrivals (StartRead i j) gd = nothing_new _ (by_asks _ (asks_begin_read c f i j s))
      act_arrivals (SendEcho p i j v) gd = by_send_echo p i j v gd
      act_arrivals (GotEcho p i j k v) gd = nothing_new _ (by_got_echo p i j k v gd)
      act_arrivals (GotReady p i j k v) gd = nothing_new _ (by_got_ready p i j k v gd)
      act_arrivals (SendReady i j v) gd = by_send_ready i j v gd
      act_arrivals (TakeValue i j v) gd = by_take_value i j v
      act_arrivals (GotReport p i k j r x reported) gd = nothing_new _ (by_asks _ (asks_got_report c f p i k j r x reported s gd))
      act_arrivals (Freshen i j r reported) gd = nothing_new _ (by_asks _ (asks_freshen c f i j r reported s))
      act_arrivals (GotDone p i k x done) gd = nothing_new _ (by_asks _ (asks_got_done c f p i k x done s gd))
      act_arrivals (EndWrite p i k x done) gd = nothing_new _ (by_asks _ (asks_end_write c f p i k x done s gd))
      act_arrivals (GotCaught p i k j x v done) gd = nothing_new _ (by_asks _ (asks_got_caught c f p i k j x v done s gd))
      act_arrivals (EndRead p i k j x v done) gd = nothing_new _ (by_asks _ (asks_end_read c f p i k j x v done s gd))
      act_arrivals (Report p i k j r) gd = nothing_new _ (by_asks _ (asks_report c f p i k j r s gd))
      act_arrivals (AnswerNow p i k j x) gd = nothing_new _ (by_asks _ (asks_answer c f p i k j x s gd))
      act_arrivals (Hold p i k j x) gd = nothing_new _ (by_asks _ (asks_hold c f p i k j x s gd))

module _ {V : Type 0} (c : Setting V) (L : Lawful c) (o : Opening V) (ok : c.system.allowed o.faulty ≡ true) where
  pub arrivals_opened : Arrivals c L o.faulty ok o.value (opened c o) (no_history o.value)
  unfolding no_history
  arrivals_opened =
      record {
        inits = λ k i x v e q l p. absurd (grind arith);
        echoes = λ k i j x v e q l p. absurd (grind arith);
        readies = λ k i j x v e q l p. absurd (grind arith);
      }
