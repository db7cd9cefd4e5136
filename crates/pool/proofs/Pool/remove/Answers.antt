use Rattle.std.proofs.Common.{take, drop, ◌-◌, refl, ap, ◌∙◌}
use Rattle.pool.proofs.Moved.{moved_in_order, moved_past}
use Rattle.pool.proofs.Pool.remove.Goals as goal

pub returns-clause-order : goal.returns-clause-order
returns-clause-order g c =
    let pool = c.args.self.now in
    ap (take (pool.waiting - 1)) c.copy_within.ensures.after ∙ moved_in_order pool.slots.now c.args.place pool.waiting c.requires.waits c.requires.fits

pub returns-clause-past : goal.returns-clause-past
returns-clause-past g c =
    let pool = c.args.self.now in
    record {
      slice = refl;
      length = c.copy_within.ensures.len;
      rest = ap (drop pool.waiting) c.copy_within.ensures.after ∙ moved_past pool.slots.now c.args.place pool.waiting c.requires.waits c.requires.fits;
    }
