use Rattle.mt_rule.proofs.Prelude.{rules, refl, sym, ap, ◌∙◌, get_or, length-set, All-set, IsPassOf, pass_in, IsSeatedAt, counting, seated, served}
use Rattle.mt_rule.proofs.Seating.{map_set_same, take_set, same_known, still_of}
use Rattle.mt_rule.proofs.Turning.{waits}
use Rattle.mt_rule.proofs.turn.Turn.seat_all.Goals as goal

pub loop-i-init : goal.loop-i-init
loop-i-init g c = (
  search rules,
  waits c.args.self.now.table.shared.key c.args.first.now.me.0 (ap (λ m. m.0) c.requires.seat.1),
  ap (λ m. m.1) c.requires.seat.1,
  search rules,
  search rules,
  search rules,
  search rules,
  search rules,
)

pub loop-i-preserved : goal.loop-i-preserved
loop-i-preserved g c =
    let inv = c.loop-i.invariant in
    let one = c.seat_one.ensures in
    let key = c.args.self.now.table.shared.key in
    let was = get_or c.loop-i.passes c.loop-i.i c.index-passes-i.result in
    let view = one.view ∙ ap counting inv.1 in
    let of = inv.6 c.loop-i.i c.index-passes-i.result (search rules) in (
      one.table ∙ inv.0,
      view ∙ (λ i. seated key (sym view i).tries),
      one.bare,
      length-set c.loop-i.passes c.loop-i.i c.seat_one.new.pass ∙ inv.3,
      refl,
      map_set_same pass_in c.loop-i.passes c.loop-i.i c.index-passes-i.result c.seat_one.new.pass (search rules) (same_known was c.seat_one.new.pass one.seat) ∙ inv.5,
      All-set (IsPassOf (served key)) c.loop-i.passes c.loop-i.i c.seat_one.new.pass (still_of (served key) was c.seat_one.new.pass one.seat of) inv.6,
      take_set (IsSeatedAt c.args.self.now.table.shared.table_id key) c.loop-i.passes c.loop-i.i c.seat_one.new.pass (search rules) inv.7 one.seated,
    )
