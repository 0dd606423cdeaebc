use Rattle.mt_verify.proofs.Prelude.{◌≡◌, ◌+◌, ◌<◌, [], ◌++◌, length, take, get_or, sym, ap, ◌∙◌, subst, arith, length-take, Store, ToldLine, Wrote, Counting, option_to_list, calls_in, entered, stop_at}
use Rattle.mt_verify.proofs.CountedLines.{IsCounting, counted_more, entering, few_calls}
use Rattle.mt_verify.proofs.counts.stops_of.Goals as goal

-- what the code reads where no line stands
abbrev no_line : ToldLine
no_line = record { line = 0; lane = 0; phase = 0; tree = 0; what = Wrote 0 (Store 0 0 0) (record { ref_ptr = (0, 0); now = [] }) }

pub add-requires : goal.add-requires
add-requires c =
    let within : c.loop-one.one-index < length c.args.own.now = omega (arith, c.loop-one-test.true) in
    let e = entering c.args.own.now c.loop-one.one-index no_line within c.requires c.loop-one.counting c.loop-one.stops.items c.loop-one.invariant in
    let calls : c.enter.new.self.calls ≡ c.loop-one.counting.calls = ap (λ (x : Counting). x.calls) c.enter.ensures ∙ e.calls in
    omega (arith, calls, c.loop-one.invariant.calls, few_calls (take c.loop-one.one-index c.args.own.now), length-take c.loop-one.one-index c.args.own.now, within)

pub loop-one-preserved : goal.loop-one-preserved
loop-one-preserved c =
    let within : c.loop-one.one-index < length c.args.own.now = omega (arith, c.loop-one-test.true) in
    let line : ToldLine = get_or c.args.own.now c.loop-one.one-index no_line in
    let after : c.add.new.self ≡ record (entered line.phase c.loop-one.counting) { calls = (entered line.phase c.loop-one.counting).calls + calls_in line.what } =
    c.add.ensures ∙ ap (λ (x : Counting). record x { calls = x.calls + calls_in line.what }) c.enter.ensures in
    let stop = ap (λ (x : Counting). x.before) c.enter.ensures in
    subst (IsCounting c.args.own.now (c.loop-one.one-index + 1) c.add.new.self) (ap (λ n. c.loop-one.stops.items ++ option_to_list (stop_at n line.what)) (sym stop) ∙ sym (c.in_ok-push_stop.ensures))
    (counted_more c.args.own.now c.loop-one.one-index no_line within c.requires c.loop-one.counting c.add.new.self c.loop-one.stops.items c.loop-one.invariant after)
