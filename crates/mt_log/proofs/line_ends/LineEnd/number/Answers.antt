use Rattle.mt_log.proofs.Tails.{number_room}
use Rattle.mt_log.proofs.line_ends.LineEnd.number.Goals as goal

pub write_digits-self-inside-requires : goal.write_digits-self-inside-requires
write_digits-self-inside-requires c = number_room c.self.inside.bytes c.args.self.now c.self.inside.at c.args.number c.self.told c.self.view_is c.requires c.self.invariant c.ranges.number.fits
