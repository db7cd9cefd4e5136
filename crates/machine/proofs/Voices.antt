-- The broadcast, safety: stations inside say one thing, and what they take is backed by quorums.
use Rattle.std.proofs.Common.{◌≡◌, ℕ, zero, suc, ◌<◌, ◌≤◌, true, false, List, Some, None, Option, sym, refl, ap, ◌∙◌, subst, ⊎_elim, arith}
use Rattle.std.specs.List.{remove, All, slice_get}
use Rattle.std.proofs.lemmas.Bool.{both_ways, cases_lt}
use Rattle.std.proofs.lemmas.List.Elements.{All-append, All-weaker}
use Rattle.station_set.specs.Sets.{has, Among}
use Rattle.machine.specs.declared.message.Message.{Message}
use Rattle.machine.specs.declared.message.Message.TheVariants.{Init, Echo, Ready, WriteDone, Read, State as StateOf, CatchUp, CatchUpDone}
use Rattle.machine.specs.declared.station.RegisterCopy.{RegisterCopy}
use Rattle.machine.specs.State.{Setting, Lawful, Cell, State, number, put, put_pair, fresh_cell}
use Rattle.machine.specs.Publishing.{mark_echoed, mark_readied, vote_echo, vote_ready, echo_voters, ready_voters}
use Rattle.machine.specs.Calls.{sender}
use Rattle.machine.proofs.Tables.{put_same, put_other, put_grows, put_pair_all, put_pair_else, put_pair_other, put_pair_same, put_pair_grows, stands_put, all_nth, all_removed, all_to_all, all_and_each}
use Rattle.machine.proofs.Pools.{swap_all}
use Rattle.machine.proofs.Quorums.{voter_said, voters-among, share, member_inside, quorum_is_not_allowed}
use Rattle.machine.proofs.Acts.{Act, Elsewhere, Drop, StartWrite, StartRead, SendEcho, GotEcho, GotReady, SendReady, TakeValue, GotReport, Freshen, GotDone, EndWrite, GotCaught, EndRead, Report, AnswerNow, Hold}
use Rattle.machine.proofs.Acts.{In, apply, Guard, Foreign}
use Rattle.machine.proofs.Frames.{Asking, Asks, asks_begin_read, asks_got_report, asks_freshen, asks_got_done, asks_end_write, asks_got_caught, asks_end_read, asks_report, asks_answer, asks_hold}
use Rattle.machine.proofs.History.{History, Keeps, note, Recorded}

-- a history that goes on
pub record Grown {V : Type 0} (g h : History V) : Type 0 where
  pub published : (i : ℕ) → Keeps (g.published i) (h.published i)
  pub echoed : (i j : ℕ) → Keeps (g.echoed i j) (h.echoed i j)
  pub readied : (i j : ℕ) → Keeps (g.readied i j) (h.readied i j)
  pub took : (i j : ℕ) → Keeps (g.took i j) (h.took i j)

pub grown_refl : {V : Type 0} (h : History V) → Grown h h
grown_refl h = record { published = λ i x v e. e; echoed = λ i j x v e. e; readied = λ i j x v e. e; took = λ i j x v e. e }

pub grown_trans : {V : Type 0} (g h k : History V) → Grown g h → Grown h k → Grown g k
grown_trans g h k a b =
    record {
      published = λ i x v e. b.published i x v (a.published i x v e);
      echoed = λ i j x v e. b.echoed i j x v (a.echoed i j x v e);
      readied = λ i j x v e. b.readied i j x v (a.readied i j x v e);
      took = λ i j x v e. b.took i j x v (a.took i j x v e);
    }

module _ {V : Type 0} (c : Setting V) (L : Lawful c) (f : ℕ) (ok : c.system.allowed f ≡ true) (v₀ : V) where
  -- some quorum's members inside all said v
  abbrev pub Backed : (ℕ → Option V) → V → Type 0
  Backed said v = (q : ℕ) × (c.system.quorum q ≡ true) × ((s : ℕ) → s < c.system.stations → has q s ≡ true → In f s → said s ≡ Some v)

  -- two quorums share a station inside, so they back one value
  pub same_backed : (said : ℕ → Option V) (v w : V) → Backed said v → Backed said w → v ≡ w
  same_backed said v w a b =
      let m = share c L f ok a.0 b.0 a.1 b.1 in
      let p = a.2 m.0 m.1 m.2 m.4 in
      let q = b.2 m.0 m.1 m.3 m.4 in
      cc

  -- a quorum backs with one station inside at least
  pub one_backs : (said : ℕ → Option V) (v : V) → Backed said v → (s : ℕ) × (s < c.system.stations) × In f s × (said s ≡ Some v)
  one_backs said v b = let m = share c L f ok b.0 b.0 b.1 b.1 in (m.0, m.1, m.4, b.2 m.0 m.1 m.2 m.4)

  -- a message of a station inside says what that station said
  abbrev pub Honest : History V → Message V → Type 0
  Honest h (Init k i x v) = In f k → h.published k x ≡ Some v
  Honest h (Echo k i j x v) = In f k → h.echoed k j x ≡ Some v
  Honest h (Ready k i j x v) = In f k → h.readied k j x ≡ Some v
  Honest h (WriteDone k i x) = Unit {0}
  Honest h (Read k i j r) = Unit {0}
  Honest h (StateOf k i j r x) = Unit {0}
  Honest h (CatchUp k i j x) = Unit {0}
  Honest h (CatchUpDone k i j x) = Unit {0}

  -- the marks of a cell tell what was said of its publication; nothing was said beyond it
  pub record Marks (z : Cell V) (echoed readied : ℕ → Option V) : Type 0 where
    pub echo_ahead : (x : ℕ) → suc z.copy.number < x → echoed x ≡ None
    pub echo_unsaid : z.copy.echoed ≡ false → echoed (suc z.copy.number) ≡ None
    pub echo_said : z.copy.echoed ≡ true → (v : V) × (echoed (suc z.copy.number) ≡ Some v)
    pub ready_ahead : (x : ℕ) → suc z.copy.number < x → readied x ≡ None
    pub ready_unsaid : z.copy.readied ≡ false → readied (suc z.copy.number) ≡ None
    pub ready_said : z.copy.readied ≡ true → (v : V) × (readied (suc z.copy.number) ≡ Some v)
    pub ready_past : (x : ℕ) → 0 < x → x ≤ z.copy.number → (v : V) × (readied x ≡ Some v)

  -- the votes kept of stations inside are what these said
  pub record Votes (h : History V) (j x : ℕ) (echoes readies : ℕ → Option V) : Type 0 where
    pub echo_votes : (k : ℕ) (v : V) → echoes k ≡ Some v → In f k → h.echoed k j x ≡ Some v
    pub ready_votes : (k : ℕ) (v : V) → readies k ≡ Some v → In f k → h.readied k j x ≡ Some v

  abbrev pub CellVotes : History V → ℕ → Cell V → Type 0
  CellVotes h j z = Votes h j (suc z.copy.number) z.echoes z.readies

  -- what stands behind an ECHO, a READY and a taken value
  pub record Reasons (h : History V) (j : ℕ) (echoed readied took : ℕ → Option V) : Type 0 where
    pub echo_why : (x : ℕ) (v : V) → echoed x ≡ Some v → In f j → h.published j x ≡ Some v
    pub ready_why : (x : ℕ) (v : V) → readied x ≡ Some v → Backed (λ s. h.echoed s j x) v
    pub took_why : (x : ℕ) (v : V) → took x ≡ Some v → 0 < x → Backed (λ s. h.readied s j x) v

  pub record Truthful (s : State V) (h : History V) : Type 0 where
    pub honest : All (Honest h) s.pool
    pub marks : (i j : ℕ) → In f i → Marks (s.cell i j) (h.echoed i j) (h.readied i j)
    pub votes : (i j : ℕ) → In f i → CellVotes h j (s.cell i j)
    pub reasons : (i j : ℕ) → In f i → Reasons h j (h.echoed i j) (h.readied i j) (h.took i j)

  -- all but the marks last as the history grows
  module _ (g h : History V) (w : Grown g h) where
    honest_grown : (m : Message V) → Honest g m → Honest h m
    honest_grown (Init k i x v) a = λ e. w.published k x v (a e)
    honest_grown (Echo k i j x v) a = λ e. w.echoed k j x v (a e)
    honest_grown (Ready k i j x v) a = λ e. w.readied k j x v (a e)
    honest_grown (WriteDone k i x) a = tt
    honest_grown (Read k i j r) a = tt
    honest_grown (StateOf k i j r x) a = tt
    honest_grown (CatchUp k i j x) a = tt
    honest_grown (CatchUpDone k i j x) a = tt

    pool_grown : (l : List (Message V)) → All (Honest g) l → All (Honest h) l
    pool_grown l a = All-weaker (Honest g) (Honest h) honest_grown l a

    votes_grown : (j : ℕ) (z : Cell V) → CellVotes g j z → CellVotes h j z
    votes_grown j z a =
        record {
          echo_votes = λ k v e q. w.echoed k j _ v (a.echo_votes k v e q);
          ready_votes = λ k v e q. w.readied k j _ v (a.ready_votes k v e q);
        }

    reasons_grown : (j : ℕ) (E R T : ℕ → Option V) → Reasons g j E R T → Reasons h j E R T
    reasons_grown j E R T a =
        record {
          echo_why = λ x v e q. w.published j x v (a.echo_why x v e q);
          ready_why = λ x v e. let b = a.ready_why x v e in (b.0, b.1, λ s l m q. w.echoed s j x v (b.2 s l m q));
          took_why = λ x v e l. let b = a.took_why x v e l in (b.0, b.1, λ s u m q. w.readied s j x v (b.2 s u m q));
        }

  abbrev pub Kept : History V → State V → History V → Type 0
  Kept h t g = Grown h g × Truthful t g

  module _ (s : State V) (h : History V) (R : Recorded c f v₀ s h) (T : Truthful s h) where
    -- a new pool alone
    pooled : (t : State V) → ((a b : ℕ) → In f a → t.cell a b ≡ s.cell a b) → All (Honest h) t.pool → Kept h t h
    pooled t e po = (
      grown_refl h,
      record {
        honest = po;
        marks = λ i j q. subst (λ (z : Cell V). Marks z (h.echoed i j) (h.readied i j)) (sym (e i j q)) (T.marks i j q);
        votes = λ i j q. subst (CellVotes h j) (sym (e i j q)) (T.votes i j q);
        reasons = T.reasons;
      },
    )

    said_outside : (m : Message V) → has f (sender m) ≡ true → Honest h m
    said_outside (Init k i x v) e = λ q. absurd (both_ways _ q e)
    said_outside (Echo k i j x v) e = λ q. absurd (both_ways _ q e)
    said_outside (Ready k i j x v) e = λ q. absurd (both_ways _ q e)
    said_outside (WriteDone k i x) e = tt
    said_outside (Read k i j r) e = tt
    said_outside (StateOf k i j r x) e = tt
    said_outside (CatchUp k i j x) e = tt
    said_outside (CatchUpDone k i j x) e = tt

    asked : (m : Message V) → Asking m → Honest h m
    asked (Init k i x v) e = absurd e
    asked (Echo k i j x v) e = absurd e
    asked (Ready k i j x v) e = absurd e
    asked (WriteDone k i x) e = tt
    asked (Read k i j r) e = tt
    asked (StateOf k i j r x) e = tt
    asked (CatchUp k i j x) e = tt
    asked (CatchUpDone k i j x) e = tt

    kept_foreign : (t : State V) → Foreign c f s t → Kept h t h
    kept_foreign t w = pooled t w.cell_same (swap_all _ _ (Honest h) s.pool t.pool w.pool_change said_outside T.honest)

    kept_asks : (t : State V) → Asks c f s t → Kept h t h
    kept_asks t w = pooled t (λ a b _. w.cell_same a b) (swap_all _ _ (Honest h) s.pool t.pool w.pool_change asked T.honest)

    -- one cell changes, and the history of its station for that register
    kept_cell : (i j : ℕ) (z : Cell V) (t : State V) (g : History V) → t.cell ≡ put_pair i j z s.cell → Grown h g
        → ((a b : ℕ) → ((a ≡ i) × (b ≡ j) → ⊥) → (g.echoed a b ≡ h.echoed a b) × (g.readied a b ≡ h.readied a b) × (g.took a b ≡ h.took a b))
        → Marks z (g.echoed i j) (g.readied i j) → CellVotes h j z → Reasons h j (g.echoed i j) (g.readied i j) (g.took i j)
        → All (Honest g) t.pool → Kept h t g
    kept_cell i j z t g ec w other mk vs wy po = (
      w,
      record {
        honest = po;
        marks = λ a b q. subst (λ (y : ℕ → ℕ → Cell V). Marks (y a b) (g.echoed a b) (g.readied a b)) (sym ec)
            (put_pair_else (λ a b y. In f a → Marks y (g.echoed a b) (g.readied a b)) i j z s.cell
            (λ a b ne q. let o = other a b ne in
            subst (λ (p : ℕ → Option V). Marks (s.cell a b) p (g.readied a b)) (sym o.0) (subst (Marks (s.cell a b) (h.echoed a b)) (sym o.1) (T.marks a b q)))
            (λ _. mk) a b q);
        votes = λ a b q. subst (λ (y : ℕ → ℕ → Cell V). CellVotes g b (y a b)) (sym ec)
            (put_pair_all (λ a b y. In f a → CellVotes g b y) i j z s.cell (λ a b q. votes_grown h g w b (s.cell a b) (T.votes a b q)) (λ _. votes_grown h g w j z vs) a b q);
        reasons = λ a b q. put_pair_else (λ a b (_ : Unit {0}). In f a → Reasons g b (g.echoed a b) (g.readied a b) (g.took a b)) i j tt (λ _ _. tt)
            (λ a b ne q. let o = other a b ne in
            let r = reasons_grown h g w b (h.echoed a b) (h.readied a b) (h.took a b) (T.reasons a b q) in
            subst (λ (p : ℕ → Option V). Reasons g b p (g.readied a b) (g.took a b)) (sym o.0)
            (subst (λ (p : ℕ → Option V). Reasons g b (h.echoed a b) p (g.took a b)) (sym o.1) (subst (Reasons g b (h.echoed a b) (h.readied a b)) (sym o.2) r)))
            (λ _. reasons_grown h g w j (g.echoed i j) (g.readied i j) (g.took i j) wy) a b q;
      },
    )

    -- the messages that stay, and what stands at a place
    left : (p : ℕ) → All (Honest h) (remove s.pool p)
    left p = all_removed (Honest h) s.pool p T.honest

    at_place : (p : ℕ) (m : Message V) → slice_get s.pool p ≡ Some m → Honest h m
    at_place p m e = all_nth (Honest h) s.pool p m T.honest e

    kept_send_echo : (p i j : ℕ) (v : V) → Guard c f (SendEcho p i j v) s → Kept h (apply c f (SendEcho p i j v) s) (note c f v₀ (SendEcho p i j v) s h)
    kept_send_echo p i j v gd =
        let x : ℕ = suc (number s i j) in
        let E : ℕ → Option V = put x (Some v) (h.echoed i j) in
        let g : History V = note c f v₀ (SendEcho p i j v) s h in
        let m : Marks (s.cell i j) (h.echoed i j) (h.readied i j) = T.marks i j gd.0 in
        let wy = T.reasons i j gd.0 in
        let is : g.echoed i j ≡ E = put_pair_same h.echoed i j E in
        let w : Grown h g =
        record {
          published = λ a y u q. q;
          echoed = put_pair_all (λ a b (q : ℕ → Option V). Keeps (h.echoed a b) q) i j E h.echoed (λ a b y u q. q)
              (put_grows (h.echoed i j) x v (m.echo_unsaid gd.1));
          readied = λ a b y u q. q;
          took = λ a b y u q. q;
        } in
        kept_cell i j (mark_echoed (s.cell i j)) (apply c f (SendEcho p i j v) s) g refl w
        (λ a b ne. (put_pair_other h.echoed i j E a b ne, refl, refl))
        (subst (λ (q : ℕ → Option V). Marks (mark_echoed (s.cell i j)) q (h.readied i j)) (sym is)
        (record {
          echo_ahead = λ y l. put_other (h.echoed i j) x (Some v) y (omega arith) ∙ m.echo_ahead y l;
          echo_unsaid = λ e. absurd (both_ways true e refl);
          echo_said = λ e. (v, put_same (h.echoed i j) x (Some v));
          ready_ahead = m.ready_ahead;
          ready_unsaid = m.ready_unsaid;
          ready_said = m.ready_said;
          ready_past = m.ready_past;
        }))
        (T.votes i j gd.0)
        (subst (λ (q : ℕ → Option V). Reasons h j q (h.readied i j) (h.took i j)) (sym is)
        (record {
          echo_why = stands_put (λ y u. In f j → h.published j y ≡ Some u) (h.echoed i j) x v wy.echo_why (at_place p _ gd.2);
          ready_why = wy.ready_why;
          took_why = wy.took_why;
        }))
        (All-append (Honest g) (remove s.pool p) _ (pool_grown h g w _ (left p))
        (all_to_all (Honest g) s.figures.stations (λ k. Echo i k j x v) (λ k e. ap (λ (q : ℕ → Option V). q x) is ∙ put_same (h.echoed i j) x (Some v))))

    same_cell : (i j : ℕ) (z : Cell V) → z.copy ≡ (s.cell i j).copy → Marks (s.cell i j) (h.echoed i j) (h.readied i j) → Marks z (h.echoed i j) (h.readied i j)
    same_cell i j z e m =
        let en = ap (λ (y : RegisterCopy V). y.number) e in
        let ee = ap (λ (y : RegisterCopy V). y.echoed) e in
        let er = ap (λ (y : RegisterCopy V). y.readied) e in
        record {
          echo_ahead = λ x l. m.echo_ahead x (omega arith);
          echo_unsaid = λ q. ap (λ y. h.echoed i j (suc y)) en ∙ m.echo_unsaid (sym ee ∙ q);
          echo_said = λ q. let o = m.echo_said (sym ee ∙ q) in (o.0, ap (λ y. h.echoed i j (suc y)) en ∙ o.1);
          ready_ahead = λ x l. m.ready_ahead x (omega arith);
          ready_unsaid = λ q. ap (λ y. h.readied i j (suc y)) en ∙ m.ready_unsaid (sym er ∙ q);
          ready_said = λ q. let o = m.ready_said (sym er ∙ q) in (o.0, ap (λ y. h.readied i j (suc y)) en ∙ o.1);
          ready_past = λ x l u. m.ready_past x l (omega arith);
        }

    kept_got_echo : (p i j k : ℕ) (v : V) → Guard c f (GotEcho p i j k v) s → Kept h (apply c f (GotEcho p i j k v) s) h
    kept_got_echo p i j k v gd =
        let vs = T.votes i j gd.0 in
        kept_cell i j (vote_echo k v (s.cell i j)) (apply c f (GotEcho p i j k v) s) h refl (grown_refl h) (λ a b ne. (refl, refl, refl))
        (same_cell i j (vote_echo k v (s.cell i j)) refl (T.marks i j gd.0))
        (record {
          echo_votes = stands_put (λ a u. In f a → h.echoed a j (suc (number s i j)) ≡ Some u) (s.cell i j).echoes k v vs.echo_votes (at_place p _ gd.2);
          ready_votes = vs.ready_votes;
        })
        (T.reasons i j gd.0) (left p)

    kept_got_ready : (p i j k : ℕ) (v : V) → Guard c f (GotReady p i j k v) s → Kept h (apply c f (GotReady p i j k v) s) h
    kept_got_ready p i j k v gd =
        let vs = T.votes i j gd.0 in
        kept_cell i j (vote_ready k v (s.cell i j)) (apply c f (GotReady p i j k v) s) h refl (grown_refl h) (λ a b ne. (refl, refl, refl))
        (same_cell i j (vote_ready k v (s.cell i j)) refl (T.marks i j gd.0))
        (record {
          echo_votes = vs.echo_votes;
          ready_votes = stands_put (λ a u. In f a → h.readied a j (suc (number s i j)) ≡ Some u) (s.cell i j).readies k v vs.ready_votes (at_place p _ gd.2);
        })
        (T.reasons i j gd.0) (left p)

    module _ (sized : s.figures.stations ≡ c.system.stations) where
      room : s.figures.stations ≤ 16
      room = omega (arith, L.laws.sized)

      -- what a set of voters said
      echo_voted : (i j : ℕ) (v : V) (k : ℕ) → In f i → has (echo_voters c i j v s) k ≡ true → In f k → h.echoed k j (suc (number s i j)) ≡ Some v
      echo_voted i j v k e m q = (T.votes i j e).echo_votes k v (voter_said c L s.figures.stations room (s.cell i j).echoes v k m).1 q

      ready_voted : (i j : ℕ) (v : V) (k : ℕ) → In f i → has (ready_voters c i j v s) k ≡ true → In f k → h.readied k j (suc (number s i j)) ≡ Some v
      ready_voted i j v k e m q = (T.votes i j e).ready_votes k v (voter_said c L s.figures.stations room (s.cell i j).readies v k m).1 q

      ready_among : (i j : ℕ) (v : V) → Among c.system.stations (ready_voters c i j v s)
      ready_among i j v k m = omega (arith, voters-among c L s.figures.stations room (s.cell i j).readies v k m)

      kept_send_ready : (i j : ℕ) (v : V) → Guard c f (SendReady i j v) s → Kept h (apply c f (SendReady i j v) s) (note c f v₀ (SendReady i j v) s h)
      kept_send_ready i j v gd =
          let x : ℕ = suc (number s i j) in
          let E : ℕ → Option V = put x (Some v) (h.readied i j) in
          let g : History V = note c f v₀ (SendReady i j v) s h in
          let m : Marks (s.cell i j) (h.echoed i j) (h.readied i j) = T.marks i j gd.0 in
          let wy = T.reasons i j gd.0 in
          let is : g.readied i j ≡ E = put_pair_same h.readied i j E in
          -- by ECHO votes it is their quorum; by READY votes one of them is inside, and its reason serves
          let b : Backed (λ k. h.echoed k j x) v =
          ⊎_elim
          (λ q. (echo_voters c i j v s, q, λ k l u e. echo_voted i j v k gd.0 u e))
          (λ q. let k = member_inside c L f ok (ready_voters c i j v s) (ready_among i j v) q in
          (T.reasons k.0 j k.3).ready_why x v (ready_voted i j v k.0 gd.0 k.2 k.3))
          gd.2 in
          let w : Grown h g =
          record {
            published = λ a y u q. q;
            readied = put_pair_all (λ a b (q : ℕ → Option V). Keeps (h.readied a b) q) i j E h.readied (λ a b y u q. q)
                (put_grows (h.readied i j) x v (m.ready_unsaid gd.1));
            echoed = λ a b y u q. q;
            took = λ a b y u q. q;
          } in
          kept_cell i j (mark_readied (s.cell i j)) (apply c f (SendReady i j v) s) g refl w
          (λ a b ne. (refl, put_pair_other h.readied i j E a b ne, refl))
          (subst (λ (q : ℕ → Option V). Marks (mark_readied (s.cell i j)) (h.echoed i j) q) (sym is)
          (record {
            echo_ahead = m.echo_ahead;
            echo_unsaid = m.echo_unsaid;
            echo_said = m.echo_said;
            ready_ahead = λ y l. put_other (h.readied i j) x (Some v) y (omega arith) ∙ m.ready_ahead y l;
            ready_unsaid = λ e. absurd (both_ways true e refl);
            ready_said = λ e. (v, put_same (h.readied i j) x (Some v));
            ready_past = λ y l u. let o = m.ready_past y l u in (o.0, put_other (h.readied i j) x (Some v) y (omega arith) ∙ o.1);
          }))
          (T.votes i j gd.0)
          (subst (λ (q : ℕ → Option V). Reasons h j (h.echoed i j) q (h.took i j)) (sym is)
          (record {
            echo_why = wy.echo_why;
            ready_why = stands_put (λ y u. Backed (λ k. h.echoed k j y) u) (h.readied i j) x v wy.ready_why b;
            took_why = wy.took_why;
          }))
          (All-append (Honest g) s.pool _ (pool_grown h g w _ T.honest)
          (all_to_all (Honest g) s.figures.stations (λ k. Ready i k j x v) (λ k e. ap (λ (q : ℕ → Option V). q x) is ∙ put_same (h.readied i j) x (Some v))))

      kept_take_value : (i j : ℕ) (v : V) → Guard c f (TakeValue i j v) s → Kept h (apply c f (TakeValue i j v) s) (note c f v₀ (TakeValue i j v) s h)
      kept_take_value i j v gd =
          let x : ℕ = suc (number s i j) in
          let E : ℕ → Option V = put x (Some v) (h.took i j) in
          let g : History V = note c f v₀ (TakeValue i j v) s h in
          let m : Marks (s.cell i j) (h.echoed i j) (h.readied i j) = T.marks i j gd.0 in
          let wy = T.reasons i j gd.0 in
          let is : g.took i j ≡ E = put_pair_same h.took i j E in
          let readied : (s.cell i j).copy.readied ≡ true =
          ⊎_elim (λ e. e) (λ e. absurd (both_ways _ (quorum_is_not_allowed c L (ready_voters c i j v s) gd.1) e)) gd.2 in
          let w : Grown h g =
          record {
            published = λ a y u q. q;
            echoed = λ a b y u q. q;
            readied = λ a b y u q. q;
            took = put_pair_all (λ a b (q : ℕ → Option V). Keeps (h.took a b) q) i j E h.took (λ a b y u q. q)
                (put_grows (h.took i j) x v ((R.taken i j gd.0).ahead_is x (omega arith)));
          } in
          kept_cell i j (fresh_cell v x) (apply c f (TakeValue i j v) s) g refl w
          (λ a b ne. (refl, refl, put_pair_other h.took i j E a b ne))
          (record {
            echo_ahead = λ y l. m.echo_ahead y (omega arith);
            echo_unsaid = λ e. m.echo_ahead _ (omega arith);
            echo_said = λ e. absurd (both_ways true (sym e) refl);
            ready_ahead = λ y l. m.ready_ahead y (omega arith);
            ready_unsaid = λ e. m.ready_ahead _ (omega arith);
            ready_said = λ e. absurd (both_ways true (sym e) refl);
            ready_past = λ y l u. ⊎_elim (λ lt. m.ready_past y l (omega arith))
                (λ ge. let q : x ≡ y = omega arith in subst (λ z. (u : V) × (h.readied i j z ≡ Some u)) q (m.ready_said readied)) (cases_lt y x);
          })
          (record { echo_votes = λ k u e q. absurd (grind arith); ready_votes = λ k u e q. absurd (grind arith) })
          (subst (λ (q : ℕ → Option V). Reasons h j (h.echoed i j) (h.readied i j) q) (sym is)
          (record {
            echo_why = wy.echo_why;
            ready_why = wy.ready_why;
            took_why = stands_put (λ y u. 0 < y → Backed (λ k. h.readied k j y) u) (h.took i j) x v wy.took_why
                (λ _. (ready_voters c i j v s, gd.1, λ k l u e. ready_voted i j v k gd.0 u e));
          }))
          (All-append (Honest g) s.pool _ (pool_grown h g w _ T.honest)
          (all_and_each (Honest g) _ (λ k. CatchUpDone i k j x) _ tt (λ k. tt)))

      kept_begin_write : (i : ℕ) (v : V) → Guard c f (StartWrite i v) s → Kept h (apply c f (StartWrite i v) s) (note c f v₀ (StartWrite i v) s h)
      kept_begin_write i v gd =
          let x : ℕ = suc (s.station i).written in
          let g : History V = note c f v₀ (StartWrite i v) s h in
          let w : Grown h g =
          record {
            published = λ a y u q. put_pair_grows h.published i x v ((R.wrote i gd.0).ahead_is x (omega arith)) a y u q;
            echoed = λ a b y u q. q;
            readied = λ a b y u q. q;
            took = λ a b y u q. q;
          } in (
            w,
            record {
              honest = All-append (Honest g) s.pool _ (pool_grown h g w _ T.honest)
                  (all_to_all (Honest g) s.figures.stations (λ k. Init i k x v) (λ k e. put_pair_same h.published i x (Some v)));
              marks = T.marks;
              votes = λ a b q. votes_grown h g w b (s.cell a b) (T.votes a b q);
              reasons = λ a b q. reasons_grown h g w b (h.echoed a b) (h.readied a b) (h.took a b) (T.reasons a b q);
            },
          )

      pub act_truthful : (a : Act V) → Guard c f a s → Kept h (apply c f a s) (note c f v₀ a s h)
      act_truthful (Elsewhere t) gd = kept_foreign t gd
      act_truthful (Drop p m) gd = pooled (apply c f (Drop p m) s) (λ a b _. refl) (left p)
      act_truthful (StartWrite i v) gd = kept_begin_write i v gd
      act_truthful (StartRead i j) gd = kept_asks _ (asks_begin_read c f i j s)
      act_truthful (SendEcho p i j v) gd = kept_send_echo p i j v gd
      act_truthful (GotEcho p i j k v) gd = kept_got_echo p i j k v gd
      act_truthful (GotReady p i j k v) gd = kept_got_ready p i j k v gd
      act_truthful (SendReady i j v) gd = kept_send_ready i j v gd
      act_truthful (TakeValue i j v) gd = kept_take_value i j v gd
      act_truthful (GotReport p i k j r x reported) gd = kept_asks _ (asks_got_report c f p i k j r x reported s gd)
      act_truthful (Freshen i j r reported) gd = kept_asks _ (asks_freshen c f i j r reported s)
      act_truthful (GotDone p i k x done) gd = kept_asks _ (asks_got_done c f p i k x done s gd)
      act_truthful (EndWrite p i k x done) gd = kept_asks _ (asks_end_write c f p i k x done s gd)
      act_truthful (GotCaught p i k j x v done) gd = kept_asks _ (asks_got_caught c f p i k j x v done s gd)
      act_truthful (EndRead p i k j x v done) gd = kept_asks _ (asks_end_read c f p i k j x v done s gd)
      act_truthful (Report p i k j r) gd = kept_asks _ (asks_report c f p i k j r s gd)
      act_truthful (AnswerNow p i k j x) gd = kept_asks _ (asks_answer c f p i k j x s gd)
      act_truthful (Hold p i k j x) gd = kept_asks _ (asks_hold c f p i k j x s gd)

    -- two stations inside never say READY of two values
    pub one_ready : (i k j x : ℕ) (v w : V) → In f i → In f k → h.readied i j x ≡ Some v → h.readied k j x ≡ Some w → v ≡ w
    one_ready i k j x v w e q a b =
        same_backed (λ s. h.echoed s j x) v w ((T.reasons i j e).ready_why x v a) ((T.reasons k j q).ready_why x w b)

    -- agreement
    pub one_value : (i k j x : ℕ) (v w : V) → In f i → In f k → h.took i j x ≡ Some v → h.took k j x ≡ Some w → v ≡ w
    one_value i k j zero v w e q a b = let m = (R.taken i j e).zero_is in let n = (R.taken k j q).zero_is in cc
    one_value i k j (suc x) v w e q a b =
        same_backed (λ s. h.readied s j (suc x)) v w ((T.reasons i j e).took_why (suc x) v a (omega arith)) ((T.reasons k j q).took_why (suc x) w b (omega arith))

    -- validity
    pub taken_published : (i j x : ℕ) (v : V) → In f i → In f j → 0 < x → h.took i j x ≡ Some v → h.published j x ≡ Some v
    taken_published i j x v e q l t =
        let r = one_backs (λ s. h.readied s j x) v ((T.reasons i j e).took_why x v t l) in
        let o = one_backs (λ s. h.echoed s j x) v ((T.reasons r.0 j r.2).ready_why x v r.3) in
        (T.reasons o.0 j o.2).echo_why x v o.3 q

    -- no station inside is farther with a register inside than its owner has written
    pub never_ahead : (k i : ℕ) → In f k → In f i → number s k i ≤ (s.station i).written
    never_ahead k i e q =
        ⊎_elim
        (λ over.
        let t = (R.taken k i e).now_is in
        let p = taken_published k i (number s k i) (s.cell k i).copy.value e q (omega arith) t in
        let n = (R.wrote i q).ahead_is (number s k i) over in
        absurd (grind arith))
        (λ ge. ge) (cases_lt (s.station i).written (number s k i))
