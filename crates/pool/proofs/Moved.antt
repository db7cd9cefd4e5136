-- A message leaves, and those behind it move up by one.
use Rattle.std.proofs.Common.{◌≡◌, suc, ℕ, ◌+◌, ◌-◌, ◌<◌, ◌≤◌, ◌++◌, List, length, take, drop, sym, ap, ap₂, ◌∙◌, arith}
use Rattle.std.specs.List.{copy_within, remove}
use Rattle.std.proofs.lemmas.List.{take-take, drop-take, drop-drop, length-drop}
use Rattle.std.proofs.Math.Seq.{paste}
use Rattle.std.proofs.lemmas.List.Edits.{take-paste, drop-paste}

module _ {M : Type 0} (xs : List M) (place waiting : ℕ) (waits : place < waiting) (fits : waiting ≤ length xs) where
  abbrev moved : ℕ
  moved = waiting - (place + 1)

  abbrev behind : List M
  behind = drop (place + 1) xs

  rest : length behind ≡ length xs - (place + 1)
  rest = length-drop (place + 1) xs

  enough : moved ≤ length behind
  enough = omega (arith, rest, waits, fits)

  pub moved_in_order : take (waiting - 1) (copy_within xs (place + 1) waiting place) ≡ remove (take waiting xs) place
  moved_in_order =
      let fewer : waiting - 1 ≡ place + moved = omega (arith, waits) in
      let next : suc place ≡ place + 1 = omega arith in
      let through : waiting ≡ place + 1 + moved = omega (arith, waits) in
      ap (λ k. take k (paste xs place behind moved)) fewer ∙ take-paste xs place behind moved (omega (arith, waits, fits)) enough
      ∙ sym
      (ap₂ (λ a b. a ++ b) (take-take place waiting xs (omega (arith, waits))) (ap₂ (λ a k. drop a (take k xs)) next through ∙ drop-take (place + 1) moved xs))

  pub moved_past : drop waiting (copy_within xs (place + 1) waiting place) ≡ drop waiting xs
  moved_past =
      let through : waiting ≡ place + moved + 1 = omega (arith, waits) in
      ap (λ k. drop k (paste xs place behind moved)) through ∙ sym (drop-drop 1 (place + moved) (paste xs place behind moved))
      ∙ ap (drop 1) (drop-paste xs place behind moved (omega (arith, waits, fits)) enough)
      ∙ drop-drop 1 (place + moved) xs
      ∙ ap (λ k. drop k xs) (sym through)
