use Rattle.mt_sequential.proofs.Prelude.{◌<◌, ℕ, List, length, take, All, arith, refl, ◌∙◌, subst, sym, All-nil, Line, IsCalledWithin}
use Rattle.mt_sequential.proofs.CalledWithin.{names_known, one_call_at_most, one_more_played}
use Rattle.mt_sequential.proofs.PlayedLines.{none_played}
use Rattle.mt_sequential.proofs.player.play_lines.Goals as goal

pub loop-line-init : goal.loop-line-init
loop-line-init g c = (
  refl,
  none_played c.args.rows (record { rows = c.args.rows; trees = c.new.result.items; entries = c.in_ok-with_capacity.field-0.items }) c.new.ensures.items c.in_ok-with_capacity.ensures.items,
  subst (All (IsCalledWithin 0)) (sym c.new.ensures.items) (All-nil (IsCalledWithin 0)),
)

pub line-requires-clause-named : goal.line-requires-clause-named
line-requires-clause-named g c =
    let within : c.loop-line.line-index < length c.args.lines.now = omega (arith, c.loop-line-test.true) in
    names_known c.args.rows c.args.lines.now c.loop-line.line-index c.line-item.result c.requires.readable within c.line-item.is c.loop-line.player c.loop-line.invariant.1

pub loop-line-preserved : goal.loop-line-preserved
loop-line-preserved g c =
    let line : Line = c.line-item.result in
    let lines : List Line = c.args.lines.now in
    let i : ℕ = c.loop-line.line-index in
    let within : i < length lines = omega (arith, c.loop-line-test.true) in
    let same = c.loop-line.invariant.0 in
    let does = c.in_ok-line.ensures.does in (
      c.in_ok-line.ensures.rows ∙ same,
      one_more_played c.args.rows lines i line c.requires.readable within c.line-item.is c.loop-line.player c.line.new.self same does c.loop-line.invariant.1,
      one_call_at_most c.args.rows (take i lines) i c.loop-line.player c.line.new.self c.loop-line.invariant.1 c.loop-line.invariant.2 line.number line.item does,
    )
