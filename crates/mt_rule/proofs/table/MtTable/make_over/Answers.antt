use Rattle.mt_rule.proofs.Prelude.{rules, refl, new_pass, sheet_in, new_pen, identity_of, IsPassOf, pass_in, pen_in}
use Rattle.mt_rule.proofs.Seating.{all_dealt, map_dealt, pen_dealt}
use Rattle.mt_rule.proofs.table.MtTable.make_over.Goals as goal

pub loop-number-preserved : goal.loop-number-preserved
loop-number-preserved c =
    let inv = c.loop-number.invariant in
    let dealt = c.deal.ensures in
    let items = c.push_reserved.ensures.items in (
      refl,
      dealt.of,
      dealt.alone,
      pen_dealt (new_pen (identity_of c.in_ok-table.table).shape (sheet_in c.args.opening.value).tree) (pen_in c.loop-number.pen) _ _ _ inv.3 dealt.pen,
      search rules,
      search rules,
      all_dealt (IsPassOf (identity_of c.in_ok-table.table)) _ _ _ items inv.6 dealt.pass,
      map_dealt pass_in new_pass _ _ _ _ items inv.7 dealt.new,
    )
