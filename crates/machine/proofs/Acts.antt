-- Each call is a chain of small acts, each under its guard. Stations outside a given set may do anything:
-- all that they do is one act, which leaves the tables of the others alone.
use Rattle.std.proofs.Common.{◌≡◌, ℕ, suc, ◌<◌, ◌≤◌, max, Bool, true, false, cond, not, ◌&&◌, eqb, ltb, leb, ◌⊎◌, List, [], ◌∷◌, Some, None, is_none, Option, sym, refl, ap, ◌∙◌, inl, inr, ⊎_elim, arith, Ok, Err, Result}
use Rattle.std.specs.List.{remove as removed, All, slice_get}
use Rattle.std.proofs.lemmas.Bool.{cond_both, and_parts, and_cases, not-true, not-false, leb-true, leb-false, ltb-false, eqb-true, cases_Bool, both_ways}
use Rattle.std.proofs.lemmas.Bool.Decides.{nat_tests}
use Rattle.std.proofs.lemmas.List.Elements.{All-weaker}
use Rattle.decline.specs.declared.Decline.{Decline}
use Rattle.station_set.specs.Sets.{has, Inside, with_station}
use Rattle.machine.specs.declared.message.Message.{Message}
use Rattle.machine.specs.declared.message.Message.TheVariants.{Init, Echo, Ready, WriteDone, Read, State as StateOf, CatchUp, CatchUpDone}
use Rattle.machine.specs.declared.station.Stage.{Stage}
use Rattle.machine.specs.declared.station.Stage.TheVariants.{Idle, Writing, Querying, Catching}
use Rattle.machine.specs.declared.call.Forgery.{Forgery}
use Rattle.machine.specs.declared.call.Call.{Call}
use Rattle.machine.specs.declared.call.Call.TheVariants.{Open, BeginWrite, BeginRead, Take, Forge, Withdraw, Count}
use Rattle.machine.specs.declared.call.Answer.{Answer}
use Rattle.machine.specs.declared.call.Answer.TheVariants.{Done, WriteEnded, ReadEnded, Counted}
use Rattle.machine.specs.State.{Setting, Cell, State, number, is_faulty, put_triple, with_cell, with_stage, with_held, remove, send}
use Rattle.machine.specs.Operations.{Outcome, leaves, fresh_reports, start_catching, freshness_at, write_done_at, keep_report, state_at, catch_up_done_at}
use Rattle.machine.specs.Publishing.{mark_readied, vote_echo, vote_ready, echo_voters, ready_voters, send_echo, send_ready, take_value, on_init, count_echoes, on_echo, join_readies, count_readies, on_ready}
use Rattle.machine.specs.Calls.{sender, receiver, ahead, unless_old, act, unless, is_idle, write_reasons, write_decline, begin_write, read_reasons, read_decline, begin_read, receive_reasons, receive_decline, take_decline, receive, forged, forge_reasons, forge_decline, join_forged, withdraw_decline, step}
use Rattle.machine.proofs.Reasons.{unfit}
use Rattle.machine.proofs.Tables.{put_pair_same, is_absent, all_one}
use Rattle.machine.proofs.Pools.{Swap, swap_removed}
use Rattle.machine.proofs.Only.{Only, only_write, only_read, About, own_act}

pub data Act (V : Type 0) : Type 0 where
  -- whatever stations outside do
  Elsewhere : State V → Act V
  -- a station takes away a message that has no effect
  Drop : (p : ℕ) → Message V → Act V
  StartWrite : (i : ℕ) → V → Act V
  StartRead : (i j : ℕ) → Act V
  -- publishing
  SendEcho : (p i j : ℕ) → V → Act V
  GotEcho : (p i j k : ℕ) → V → Act V
  GotReady : (p i j k : ℕ) → V → Act V
  SendReady : (i j : ℕ) → V → Act V
  TakeValue : (i j : ℕ) → V → Act V
  -- operations
  GotReport : (p i k j r x reported : ℕ) → Act V
  Freshen : (i j r reported : ℕ) → Act V
  GotDone : (p i k x done : ℕ) → Act V
  EndWrite : (p i k x done : ℕ) → Act V
  GotCaught : (p i k j x : ℕ) → V → ℕ → Act V
  EndRead : (p i k j x : ℕ) → V → ℕ → Act V
  Report : (p i k j r : ℕ) → Act V
  AnswerNow : (p i k j x : ℕ) → Act V
  Hold : (p i k j x : ℕ) → Act V

-- The stations outside are a set, f; the others are inside.
abbrev pub In : ℕ → ℕ → Type 0
In f i = has f i ≡ false

module _ {V : Type 0} (c : Setting V) (f : ℕ) where
  -- What stations outside may change: their own tables, messages that they send, messages that they sent or receive.
  pub record Foreign (s t : State V) : Type 0 where
    pub figures_same : t.figures ≡ s.figures
    pub cell_same : (a b : ℕ) → has f a ≡ false → t.cell a b ≡ s.cell a b
    pub station_same : (a : ℕ) → has f a ≡ false → t.station a ≡ s.station a
    pub reads_same : (a b : ℕ) → has f a ≡ false → t.reads a b ≡ s.reads a b
    pub reports_same : (a : ℕ) → has f a ≡ false → t.reports a ≡ s.reports a
    pub held_same : (a k b : ℕ) → has f a ≡ false → t.held a k b ≡ s.held a k b
    pub pool_change : Swap (λ m. has f (sender m) ≡ true) (λ m. (has f (sender m) ≡ true) ⊎ (has f (receiver m) ≡ true)) s.pool t.pool

  abbrev pub apply : Act V → State V → State V
  apply (Elsewhere t) s = t
  apply (Drop p m) s = remove p s
  apply (StartWrite i v) s = begin_write i v s
  apply (StartRead i j) s = begin_read i j s
  apply (SendEcho p i j v) s = send_echo i j v (remove p s)
  apply (GotEcho p i j k v) s = with_cell i j (vote_echo k v (s.cell i j)) (remove p s)
  apply (GotReady p i j k v) s = with_cell i j (vote_ready k v (s.cell i j)) (remove p s)
  apply (SendReady i j v) s = send_ready i j v s
  apply (TakeValue i j v) s = take_value i j v s
  apply (GotReport p i k j r x reported) s = keep_report i k j r x reported (remove p s)
  apply (Freshen i j r reported) s = start_catching i j s
  apply (GotDone p i k x done) s = with_stage i (Writing x (with_station done k)) (remove p s)
  apply (EndWrite p i k x done) s = with_stage i Idle (remove p s)
  apply (GotCaught p i k j x v done) s = with_stage i (Catching j x v (with_station done k)) (remove p s)
  apply (EndRead p i k j x v done) s = with_stage i Idle (remove p s)
  apply (Report p i k j r) s = send (StateOf i k j r (number s i j) ∷ []) (remove p s)
  apply (AnswerNow p i k j x) s = send (CatchUpDone i k j x ∷ []) (remove p s)
  apply (Hold p i k j x) s = with_held (put_triple i k j (max (s.held i k j) x) s.held) (remove p s)

  -- a message that has no effect at its receiver
  abbrev pub Spent : State V → Message V → Type 0
  Spent s (Init k i x v) = (x ≤ number s i k) ⊎ ((x ≡ suc (number s i k)) × ((s.cell i k).copy.echoed ≡ true))
  Spent s (Echo k i j x v) = (x ≤ number s i j) ⊎ ((x ≡ suc (number s i j)) × (is_none ((s.cell i j).echoes k) ≡ false))
  Spent s (Ready k i j x v) = (x ≤ number s i j) ⊎ ((x ≡ suc (number s i j)) × (is_none ((s.cell i j).readies k) ≡ false))
  Spent s (WriteDone k i x) = (done : ℕ) → (s.station i).stage ≡ Writing x done → ⊥
  Spent s (Read k i j r) = ⊥
  Spent s (StateOf k i j r x) = (reported : ℕ) → (s.station i).stage ≡ Querying j r reported → has reported k ≡ true
  Spent s (CatchUp k i j x) = ⊥
  Spent s (CatchUpDone k i j x) = (v : V) (done : ℕ) → (s.station i).stage ≡ Catching j x v done → ⊥

  abbrev pub At : State V → ℕ → Message V → Type 0
  At s p m = slice_get s.pool p ≡ Some m

  abbrev pub Guard : Act V → State V → Type 0
  Guard (Elsewhere t) s = Foreign s t
  Guard (Drop p m) s = At s p m × Spent s m
  Guard (StartWrite i v) s = In f i × ((s.station i).stage ≡ Idle)
  Guard (StartRead i j) s = In f i × ((s.station i).stage ≡ Idle)
  Guard (SendEcho p i j v) s = In f i × ((s.cell i j).copy.echoed ≡ false) × At s p (Init j i (suc (number s i j)) v)
  Guard (GotEcho p i j k v) s = In f i × ((s.cell i j).echoes k ≡ None) × At s p (Echo k i j (suc (number s i j)) v)
  Guard (GotReady p i j k v) s = In f i × ((s.cell i j).readies k ≡ None) × At s p (Ready k i j (suc (number s i j)) v)
  Guard (SendReady i j v) s =
      In f i × ((s.cell i j).copy.readied ≡ false)
      × ((c.system.quorum (echo_voters c i j v s) ≡ true) ⊎ (c.system.allowed (ready_voters c i j v s) ≡ false))
  Guard (TakeValue i j v) s =
      In f i × (c.system.quorum (ready_voters c i j v s) ≡ true)
      × (((s.cell i j).copy.readied ≡ true) ⊎ (c.system.allowed (ready_voters c i j v s) ≡ true))
  Guard (GotReport p i k j r x reported) s =
      In f i × ((s.station i).stage ≡ Querying j r reported) × (has reported k ≡ false) × At s p (StateOf k i j r x)
  Guard (Freshen i j r reported) s =
      In f i × ((s.station i).stage ≡ Querying j r reported)
      × (c.system.quorum (fresh_reports s.figures.stations (number s i j) reported (s.reports i)) ≡ true)
  Guard (GotDone p i k x done) s = In f i × ((s.station i).stage ≡ Writing x done) × At s p (WriteDone k i x)
  Guard (EndWrite p i k x done) s =
      In f i × ((s.station i).stage ≡ Writing x done) × At s p (WriteDone k i x) × (c.system.quorum (with_station done k) ≡ true)
  Guard (GotCaught p i k j x v done) s = In f i × ((s.station i).stage ≡ Catching j x v done) × At s p (CatchUpDone k i j x)
  Guard (EndRead p i k j x v done) s =
      In f i × ((s.station i).stage ≡ Catching j x v done) × At s p (CatchUpDone k i j x) × (c.system.quorum (with_station done k) ≡ true)
  Guard (Report p i k j r) s = In f i × At s p (Read k i j r)
  Guard (AnswerNow p i k j x) s = In f i × At s p (CatchUp k i j x) × (x ≤ number s i j)
  Guard (Hold p i k j x) s = In f i × At s p (CatchUp k i j x) × (number s i j < x)

  -- an act that neither begins nor ends an operation
  abbrev pub Inner : Act V → Type 0
  Inner (Elsewhere t) = Unit {0}
  Inner (Drop p m) = Unit {0}
  Inner (StartWrite i v) = ⊥
  Inner (StartRead i j) = ⊥
  Inner (SendEcho p i j v) = Unit {0}
  Inner (GotEcho p i j k v) = Unit {0}
  Inner (GotReady p i j k v) = Unit {0}
  Inner (SendReady i j v) = Unit {0}
  Inner (TakeValue i j v) = Unit {0}
  Inner (GotReport p i k j r x reported) = Unit {0}
  Inner (Freshen i j r reported) = Unit {0}
  Inner (GotDone p i k x done) = Unit {0}
  Inner (EndWrite p i k x done) = ⊥
  Inner (GotCaught p i k j x v done) = Unit {0}
  Inner (EndRead p i k j x v done) = ⊥
  Inner (Report p i k j r) = Unit {0}
  Inner (AnswerNow p i k j x) = Unit {0}
  Inner (Hold p i k j x) = Unit {0}

  pub data Chain : State V → State V → Type 0 where
    stay : {s : State V} → Chain s s
    more : {s t : State V} (a : Act V) → Inner a → Guard a s → Chain (apply a s) t → Chain s t

  one : (a : Act V) (s : State V) → Inner a → Guard a s → Chain s (apply a s)
  one a s n g = more a n g stay

  then : {s t u : State V} → Chain s t → Chain t u → Chain s u
  then stay d = d
  then (more a n g e) d = more a n g (then e d)

  -- an answer that ends no operation of a station inside
  abbrev pub Silent : Result (Answer V) Decline → Type 0
  Silent (Ok Done) = Unit {0}
  Silent (Ok (WriteEnded i x)) = has f i ≡ true
  Silent (Ok (ReadEnded i j x v)) = has f i ≡ true
  Silent (Ok (Counted waiting takeable)) = Unit {0}
  Silent (Err reason) = Unit {0}

  -- what a call comes to that begins no operation of a station inside
  pub data Went (s : State V) : Outcome V → Type 0 where
    quietly : {o : Outcome V} → Chain s o.state → Silent o.answer → Went s o
    write_ends : (p i k x done : ℕ) → Guard (EndWrite p i k x done) s
        → Went s (record { state = with_stage i Idle (remove p s); answer = Ok (WriteEnded i x) })
    read_ends : (p i k j x : ℕ) (v : V) (done : ℕ) → Guard (EndRead p i k j x v done) s
        → Went s (record { state = with_stage i Idle (remove p s); answer = Ok (ReadEnded i j x v) })

  drop : (p : ℕ) (s : State V) (m : Message V) → At s p m → Spent s m → Chain s (remove p s)
  drop p s m e w = one (Drop p m) s tt (e, w)

  -- the freshness test
  fresh_chain : (i j : ℕ) (s : State V) (o : Stage V) → (s.station i).stage ≡ o → In f i → Chain s (freshness_at c i j s o)
  fresh_chain i j s Idle e h = stay
  fresh_chain i j s (Writing x done) e h = stay
  fresh_chain i j s (Querying asked r reported) e h =
      cond_both _ _ _ (Chain s)
      (λ t. let w = and_parts _ _ t in let q = eqb-true asked j w.0 in one (Freshen i j r reported) s tt (h, rw q at e, w.1))
      (λ _. stay)
  fresh_chain i j s (Catching caught x v done) e h = stay

  -- publishing
  init_chain : (p i j : ℕ) (v : V) (s : State V) → In f i → At s p (Init j i (suc (number s i j)) v) → Chain s (on_init i j v (remove p s))
  init_chain p i j v s h m =
      cond_both (s.cell i j).copy.echoed _ _ (Chain s) (λ e. drop p s _ m (inr (refl, e))) (λ e. one (SendEcho p i j v) s tt (h, e, m))

  count_echoes_chain : (i j : ℕ) (v : V) (s : State V) → In f i → Chain s (count_echoes c i j v s)
  count_echoes_chain i j v s h =
      cond_both _ _ _ (Chain s)
      (λ e. let w = and_parts _ _ e in one (SendReady i j v) s tt (h, not-true _ w.0, inl w.1))
      (λ _. stay)

  join_chain : (i j : ℕ) (v : V) (s : State V) → In f i → Chain s (join_readies c i j v s)
  join_chain i j v s h =
      cond_both _ _ _ (Chain s)
      (λ e. let w = and_parts _ _ e in one (SendReady i j v) s tt (h, not-true _ w.0, inr (not-true _ w.1)))
      (λ _. stay)

  abbrev Joined : ℕ → ℕ → V → State V → Type 0
  Joined i j v s = ((s.cell i j).copy.readied ≡ true) ⊎ (c.system.allowed (ready_voters c i j v s) ≡ true)

  joined : (i j : ℕ) (v : V) (s : State V) → Joined i j v (join_readies c i j v s)
  joined i j v s =
      cond_both _ (send_ready i j v s) s (Joined i j v)
      (λ _. inl (ap (λ (z : Cell V). z.copy.readied) (put_pair_same s.cell i j (mark_readied (s.cell i j)))))
      (λ e. ⊎_elim (λ w. inl (not-false _ w)) (λ w. inr (not-false _ w)) (and_cases _ _ e))

  count_readies_chain : (i j : ℕ) (v : V) (s : State V) → In f i → Joined i j v s → Chain s (count_readies c i j v s)
  count_readies_chain i j v s h w =
      cond_both _ _ _ (Chain s) (λ e. then (one (TakeValue i j v) s tt (h, e, w)) (fresh_chain i j _ _ refl h)) (λ _. stay)

  echo_chain : (p i j k : ℕ) (v : V) (s : State V) → In f i → At s p (Echo k i j (suc (number s i j)) v) → Chain s (on_echo c i j k v (remove p s))
  echo_chain p i j k v s h m =
      cond_both _ _ _ (Chain s)
      (λ e. then (one (GotEcho p i j k v) s tt (h, is_absent _ e, m)) (count_echoes_chain i j v _ h))
      (λ e. drop p s _ m (inr (refl, e)))

  ready_chain : (p i j k : ℕ) (v : V) (s : State V) → In f i → At s p (Ready k i j (suc (number s i j)) v) → Chain s (on_ready c i j k v (remove p s))
  ready_chain p i j k v s h m =
      cond_both _ _ _ (Chain s)
      (λ e. then (one (GotReady p i j k v) s tt (h, is_absent _ e, m))
      (then (join_chain i j v _ h) (count_readies_chain i j v _ h (joined i j v (with_cell i j (vote_ready k v (s.cell i j)) (remove p s))))))
      (λ e. drop p s _ m (inr (refl, e)))

  at_work : (x n : ℕ) → leb x n ≡ false → ltb (suc n) x ≡ false → x ≡ suc n
  at_work x n e g = omega (arith, leb-false x n e, ltb-false (suc n) x g)

  number_chain : (p i j x : ℕ) (s t : State V) → ltb (suc (number s i j)) x ≡ false → (x ≤ number s i j → Chain s (remove p s))
      → (x ≡ suc (number s i j) → Chain s t) → Chain s (unless_old i j x (remove p s) t)
  number_chain p i j x s t in_time old now =
      cond_both (leb x (number s i j)) _ _ (Chain s) (λ e. old (leb-true x _ e)) (λ e. now (at_work x _ e in_time))

  -- operations
  write_done_chain : (p i k x : ℕ) (s : State V) (o : Stage V) → (s.station i).stage ≡ o → In f i → At s p (WriteDone k i x)
      → Went s (write_done_at c i k x (remove p s) o)
  write_done_chain p i k x s Idle e h m = quietly (drop p s _ m (λ d q. grind arith)) tt
  write_done_chain p i k x s (Writing y done) e h m =
      cond_both (eqb y x) _ _ (Went s)
      (λ t. let q = eqb-true y x t in
      let e' : (s.station i).stage ≡ Writing x done = rw q at e in
      cond_both (c.system.quorum (with_station done k)) _ _ (Went s)
      (λ u. write_ends p i k x done (h, e', m, u))
      (λ _. quietly (one (GotDone p i k x done) s tt (h, e', m)) tt))
      (λ t. quietly (drop p s _ m (λ d q. grind (arith, nat_tests))) tt)
  write_done_chain p i k x s (Querying j r reported) e h m = quietly (drop p s _ m (λ d q. grind arith)) tt
  write_done_chain p i k x s (Catching j y v done) e h m = quietly (drop p s _ m (λ d q. grind arith)) tt

  caught_chain : (p i k j x : ℕ) (s : State V) (o : Stage V) → (s.station i).stage ≡ o → In f i → At s p (CatchUpDone k i j x)
      → Went s (catch_up_done_at c i k j x (remove p s) o)
  caught_chain p i k j x s Idle e h m = quietly (drop p s _ m (λ v d q. grind arith)) tt
  caught_chain p i k j x s (Writing y done) e h m = quietly (drop p s _ m (λ v d q. grind arith)) tt
  caught_chain p i k j x s (Querying asked r reported) e h m = quietly (drop p s _ m (λ v d q. grind arith)) tt
  caught_chain p i k j x s (Catching caught y v done) e h m =
      cond_both (eqb caught j && eqb y x) _ _ (Went s)
      (λ t. let w = and_parts _ _ t in let q = eqb-true caught j w.0 in let q' = eqb-true y x w.1 in
      let e' : (s.station i).stage ≡ Catching j x v done = rw (q, q') at e in
      cond_both (c.system.quorum (with_station done k)) _ _ (Went s)
      (λ u. read_ends p i k j x v done (h, e', m, u))
      (λ _. quietly (one (GotCaught p i k j x v done) s tt (h, e', m)) tt))
      (λ t. quietly (drop p s _ m (λ v' d q. grind (arith, nat_tests))) tt)

  state_chain : (p i k j r x : ℕ) (s : State V) (o : Stage V) → (s.station i).stage ≡ o → In f i → At s p (StateOf k i j r x)
      → Chain s (state_at c i k j r x (remove p s) o)
  state_chain p i k j r x s Idle e h m = drop p s _ m (λ reported q. absurd (grind arith))
  state_chain p i k j r x s (Writing y done) e h m = drop p s _ m (λ reported q. absurd (grind arith))
  state_chain p i k j r x s (Querying asked read reported) e h m =
      cond_both _ _ _ (Chain s)
      (λ t. let w = and_parts _ _ t in let w' = and_parts _ _ w.1 in
      let q = eqb-true asked j w.0 in let q' = eqb-true read r w'.0 in
      then (one (GotReport p i k j r x reported) s tt (h, rw (q, q') at e, not-true _ w'.1, m)) (fresh_chain i j _ _ refl h))
      (λ t. drop p s _ m (λ reported' q. heard asked read reported reported' t (sym e ∙ q)))
    where
      heard : (asked read reported reported' : ℕ) → (eqb asked j && (eqb read r && not (has reported k))) ≡ false
          → ◌≡◌ {A = Stage V} (Querying asked read reported) (Querying j r reported') → has reported' k ≡ true
      heard asked read reported reported' t q = grind (arith, nat_tests)
  state_chain p i k j r x s (Catching caught y v done) e h m = drop p s _ m (λ reported q. absurd (grind arith))

  -- what a station inside does with a message
  act_chain : (p : ℕ) (s : State V) (m : Message V) → At s p m → In f (receiver m) → ahead s m ≡ false → Went s (act c (remove p s) m)
  act_chain p s (Init k i x v) e h a =
      quietly (number_chain p i k x s _ a (λ o. drop p s _ e (inl o)) (λ q. init_chain p i k v s h (rw q at e))) tt
  act_chain p s (Echo k i j x v) e h a =
      quietly (number_chain p i j x s _ a (λ o. drop p s _ e (inl o)) (λ q. echo_chain p i j k v s h (rw q at e))) tt
  act_chain p s (Ready k i j x v) e h a =
      quietly (number_chain p i j x s _ a (λ o. drop p s _ e (inl o)) (λ q. ready_chain p i j k v s h (rw q at e))) tt
  act_chain p s (WriteDone k i x) e h a = write_done_chain p i k x s (s.station i).stage refl h e
  act_chain p s (Read k i j r) e h a = quietly (one (Report p i k j r) s tt (h, e)) tt
  act_chain p s (StateOf k i j r x) e h a = quietly (state_chain p i k j r x s (s.station i).stage refl h e) tt
  act_chain p s (CatchUp k i j x) e h a =
      quietly (cond_both _ _ _ (Chain s) (λ t. one (AnswerNow p i k j x) s tt (h, e, leb-true x _ t)) (λ t. one (Hold p i k j x) s tt (h, e, leb-false x _ t))) tt
  act_chain p s (CatchUpDone k i j x) e h a = caught_chain p i k j x s (s.station i).stage refl h e

  sent_by : (i : ℕ) → has f i ≡ true → (l : List (Message V)) → All (λ m. sender m ≡ i) l → All (λ m. has f (sender m) ≡ true) l
  sent_by i h l a = All-weaker (λ m. sender m ≡ i) (λ m. has f (sender m) ≡ true) (λ m e. ap (has f) e ∙ h) l a

  -- what a station outside does changes nothing of a station inside
  outside : (i : ℕ) → has f i ≡ true → (s t : State V) → Only i s t → Foreign s t
  outside i h s t w =
      let other : (a : ℕ) → In f a → a ≡ i → ⊥ = λ a e q. both_ways _ e (rw q h) in
      record {
        figures_same = w.figures_same;
        cell_same = λ a b e. w.cell_same a b (other a e);
        station_same = λ a e. w.station_same a (other a e);
        reads_same = λ a b e. w.reads_same a b (other a e);
        reports_same = λ a e. w.reports_same a (other a e);
        held_same = λ a k b e. w.held_same a k b (other a e);
        pool_change = (s.pool, w.sent, w.pool_is, sent_by i h w.sent w.by, inl refl);
      }

  removed_foreign : (p : ℕ) (s : State V) (m : Message V) → At s p m → (has f (sender m) ≡ true) ⊎ (has f (receiver m) ≡ true) → Foreign s (remove p s)
  removed_foreign p s m e h =
      record {
        figures_same = refl;
        cell_same = λ a b _. refl;
        station_same = λ a _. refl;
        reads_same = λ a b _. refl;
        reports_same = λ a _. refl;
        held_same = λ a k b _. refl;
        pool_change = swap_removed (λ m. has f (sender m) ≡ true) _ s.pool p m e h;
      }

  -- a message leaves, and its receiver acts
  removed_then : (p : ℕ) (s t : State V) (m : Message V) → At s p m → has f (receiver m) ≡ true → Only (receiver m) (remove p s) t → Foreign s t
  removed_then p s t m e h w =
      let o = outside (receiver m) h (remove p s) t w in
      record {
        figures_same = o.figures_same;
        cell_same = o.cell_same;
        station_same = o.station_same;
        reads_same = o.reads_same;
        reports_same = o.reports_same;
        held_same = o.held_same;
        pool_change = (removed s.pool p, w.sent, w.pool_is, sent_by (receiver m) h w.sent w.by, inr (p, m, e, inr h, refl));
      }

  silent_outside : (i : ℕ) → has f i ≡ true → (a : Result (Answer V) Decline) → About i a → Silent a
  silent_outside i h (Ok Done) w = tt
  silent_outside i h (Ok (WriteEnded k x)) w = ap (has f) w ∙ h
  silent_outside i h (Ok (ReadEnded k j x v)) w = ap (has f) w ∙ h
  silent_outside i h (Ok (Counted waiting takeable)) w = tt
  silent_outside i h (Err reason) w = tt

  -- Calls

  -- the stations that the machine calls faulty are outside
  abbrev pub Fits : State V → Type 0
  Fits s = (s.figures.stations ≡ c.system.stations) × Inside s.figures.faulty f

  correct_inside : (s : State V) → Fits s → (i : ℕ) → In f i → is_faulty s i ≡ false
  correct_inside s w i h = ⊎_elim (λ e. absurd (both_ways _ h (w.1 i e))) (λ e. e) (cases_Bool (is_faulty s i))

  pass_not : (t : Bool) (o : Option Decline) (d : Decline) → cond t o (Some d) ≡ None → (t ≡ true) × (o ≡ None)
  pass_not true o d e = (refl, e)
  pass_not false o d e = absurd (let z : ◌≡◌ {A = ℕ} 0 1 = cc in omega arith)

  pub unless_both : (o : Option Decline) (u : Outcome V) (s : State V) (P : Outcome V → Type 0)
      → (o ≡ None → P u) → ((d : Decline) → P (record { state = s; answer = Err d })) → P (unless o u s)
  unless_both None u s P g h = g refl
  unless_both (Some d) u s P g h = h d

  declined : (s : State V) (d : Decline) → Went s (record { state = s; answer = Err d })
  declined s d = quietly stay tt

  receive_went : (p : ℕ) (s : State V) → Fits s → (o : Option (Message V)) → slice_get s.pool p ≡ o → receive_decline s o ≡ None → Went s (receive c p s o)
  receive_went p s w None e h = quietly stay tt
  receive_went p s w (Some m) e h = ⊎_elim out in' (cases_Bool (has f (receiver m)))
    where
      out : has f (receiver m) ≡ true → Went s (receive c p s (Some m))
      out k =
          cond_both (is_faulty s (receiver m)) _ _ (Went s)
          (λ _. quietly (one (Elsewhere (remove p s)) s tt (removed_foreign p s m e (inr k))) tt)
          (λ _.
          let t : Outcome V = act c (remove p s) m in
          quietly (one (Elsewhere t.state) s tt (removed_then p s t.state m e k (own_act c (remove p s) m).only))
          (silent_outside (receiver m) k t.answer (own_act c (remove p s) m).about))

      in' : has f (receiver m) ≡ false → Went s (receive c p s (Some m))
      in' k =
          cond_both (is_faulty s (receiver m)) _ _ (Went s)
          (λ q. absurd (both_ways _ (correct_inside s w (receiver m) k) q))
          (λ q. act_chain p s m e k (unfit (receive_reasons s m) (trim (is_faulty s (receiver m)) _ q h) 0 _ refl))
        where
          trim : (b : Bool) (o : Option Decline) → b ≡ false → cond b None o ≡ None → o ≡ None
          trim b o q g = grind arith

  -- a forged message is from the sender that was given
  data FromSender (k : ℕ) : Option (Message V) → Type 0 where
    nobody : FromSender k None
    from : (m : Message V) → sender m ≡ k → FromSender k (Some m)

  forged_sender : (n : ℕ) (g : Forgery V) → FromSender g.sender (forged n g)
  forged_sender n g =
      let P : Option (Message V) → Type 0 = FromSender g.sender in
      cond_both (eqb g.kind 1) _ _ P (λ _. cond_both _ _ None P (λ _. from _ refl) (λ _. nobody)) (λ _.
      cond_both (eqb g.kind 2) _ _ P (λ _. cond_both _ _ None P (λ _. from _ refl) (λ _. nobody)) (λ _.
      cond_both (eqb g.kind 3) _ _ P (λ _. cond_both _ _ None P (λ _. from _ refl) (λ _. nobody)) (λ _.
      cond_both (eqb g.kind 4) _ _ P (λ _. cond_both _ _ None P (λ _. from _ refl) (λ _. nobody)) (λ _.
      cond_both (eqb g.kind 5) _ _ P (λ _. cond_both _ _ None P (λ _. from _ refl) (λ _. nobody)) (λ _.
      cond_both (eqb g.kind 6) _ _ P (λ _. cond_both _ _ None P (λ _. from _ refl) (λ _. nobody)) (λ _.
      cond_both (eqb g.kind 7) _ _ P (λ _. cond_both _ _ None P (λ _. from _ refl) (λ _. nobody)) (λ _.
      cond_both (eqb g.kind 8) _ _ P (λ _. cond_both _ _ None P (λ _. from _ refl) (λ _. nobody)) (λ _. nobody))))))))

  forged_foreign : (s : State V) (m : Message V) → has f (sender m) ≡ true → Foreign s (send (m ∷ []) s)
  forged_foreign s m h =
      record {
        figures_same = refl;
        cell_same = λ a b _. refl;
        station_same = λ a _. refl;
        reads_same = λ a b _. refl;
        reports_same = λ a _. refl;
        held_same = λ a k b _. refl;
        pool_change = (s.pool, m ∷ [], refl, all_one (λ m. has f (sender m) ≡ true) m h, inl refl);
      }

  forge_went : (s : State V) → Fits s → (g : Forgery V) (o : Option (Message V)) → FromSender g.sender o → forge_decline s g o ≡ None
      → Went s (leaves (join_forged o s))
  forge_went s w g None nobody e = quietly stay tt
  forge_went s w g (Some m) (from _ q) e =
      let h = not-false _ (unfit (forge_reasons s g (Some m)) e 2 _ refl) in
      quietly (one (Elsewhere (send (m ∷ []) s)) s tt (forged_foreign s m (ap (has f) q ∙ w.1 _ h))) tt

  withdraw_went : (p : ℕ) (s : State V) → Fits s → (o : Option (Message V)) → slice_get s.pool p ≡ o → withdraw_decline s o ≡ None → Went s (leaves (remove p s))
  withdraw_went p s w None e h = absurd (let z : ◌≡◌ {A = ℕ} 0 1 = cc in omega arith)
  withdraw_went p s w (Some m) e h =
      quietly (one (Elsewhere (remove p s)) s tt (removed_foreign p s m e (inl (w.1 _ (pass_not _ _ _ h).0)))) tt

  idle_is : (o : Stage V) → is_idle o ≡ true → o ≡ Idle
  idle_is Idle e = refl
  idle_is (Writing x done) e = cc
  idle_is (Querying j r reported) e = cc
  idle_is (Catching j x v done) e = cc

  pub take_went : (s : State V) → Fits s → (p : ℕ) → Went s (step c s (Take p))
  take_went s w p =
      unless_both (take_decline c s p) _ _ (Went s) (λ e. receive_went p s w (slice_get s.pool p) refl (pass_not _ _ _ e).1) (declined s)

  pub forging_went : (s : State V) → Fits s → (g : Forgery V) → Went s (step c s (Forge g))
  forging_went s w g =
      unless_both (forge_decline s g (forged s.figures.highest g)) _ _ (Went s)
      (forge_went s w g (forged s.figures.highest g) (forged_sender s.figures.highest g)) (declined s)

  pub withdrawing_went : (s : State V) → Fits s → (p : ℕ) → Went s (step c s (Withdraw p))
  withdrawing_went s w p =
      unless_both (withdraw_decline s (slice_get s.pool p)) _ _ (Went s) (withdraw_went p s w (slice_get s.pool p) refl) (declined s)

  -- what a call came to: an operation of a station inside began, or a chain of other acts
  pub data Stepped (s : State V) : Call V → Outcome V → Type 0 where
    went : {call : Call V} {o : Outcome V} → Went s o → Stepped s call o
    wrote : (i : ℕ) (v : V) → write_decline s i ≡ None → Guard (StartWrite i v) s → Stepped s (BeginWrite i v) (leaves (begin_write i v s))
    asked : (i j : ℕ) → read_decline s i j ≡ None → Guard (StartRead i j) s → Stepped s (BeginRead i j) (leaves (begin_read i j s))

  pub write_idle : (s : State V) (i : ℕ) → write_decline s i ≡ None → (s.station i).stage ≡ Idle
  write_idle s i e = idle_is _ (not-false _ (unfit (write_reasons s i) e 2 _ refl))

  pub read_idle : (s : State V) (i j : ℕ) → read_decline s i j ≡ None → (s.station i).stage ≡ Idle
  read_idle s i j e = idle_is _ (not-false _ (unfit (read_reasons s i j) e 2 _ refl))

  pub stepped : (s : State V) → Fits s → (call : Call V) → Stepped s call (step c s call)
  stepped s w (Open o) = went (quietly stay tt)
  stepped s w (BeginWrite i v) =
      unless_both (write_decline s i) _ _ (Stepped s (BeginWrite i v))
      (λ e. ⊎_elim
      (λ h. went (quietly (one (Elsewhere (begin_write i v s)) s tt (outside i h s (begin_write i v s) (only_write i v s))) tt))
      (λ h. wrote i v e (h, write_idle s i e))
      (cases_Bool (has f i)))
      (λ d. went (declined s d))
  stepped s w (BeginRead i j) =
      unless_both (read_decline s i j) _ _ (Stepped s (BeginRead i j))
      (λ e. ⊎_elim
      (λ h. went (quietly (one (Elsewhere (begin_read i j s)) s tt (outside i h s (begin_read i j s) (only_read i j s))) tt))
      (λ h. asked i j e (h, read_idle s i j e))
      (cases_Bool (has f i)))
      (λ d. went (declined s d))
  stepped s w (Take p) = went (take_went s w p)
  stepped s w (Forge g) = went (forging_went s w g)
  stepped s w (Withdraw p) = went (withdrawing_went s w p)
  stepped s w Count = went (quietly stay tt)
