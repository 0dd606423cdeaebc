use Rattle.mt_verify.proofs.Prelude.{◌≡◌, ℕ, ◌+◌, ◌/◌, [], Some, length, get_or, slice_get, inl, inr, sym, ap, ◌∙◌, subst, arith, iff_false, slice_get-get_or, Store, Noted, map_of_noted, HavePassedAll, IsAnsweredAt, opened_of}
use Rattle.mt_verify.specs.declared.noted.Heard.TheVariants.{Reply as Printed}
use Rattle.mt_verify.proofs.WholeTrees.{Going, map_by_is_map, go_begins, go_hindered_first, go_refused, go_on, go_hindered, go_ends}
use Rattle.mt_verify.proofs.trees.go_through.Goals as goal

-- what the code reads where no call stands
abbrev no_call : Noted
no_call = record { lane = 0; call = Store 0 0 0; heard = Printed (record { ref_ptr = (0, 0); now = [] }) }

pub returns-then-not-branch-clause-gone : goal.returns-then-not-branch-clause-gone
returns-then-not-branch-clause-gone c =
    let before : Going = record { map = c.args.map.now; lanes = c.args.tracks.now; stops = c.args.stops.now } in
    let first : Going = record { map = c.pass_all.new.map; lanes = c.pass_all.new.tracks; stops = c.pass_all.new.stops } in
    inr (go_hindered_first c.args.version c.args.rows c.args.noted.now before c.requires.fresh c.requires.fresh_stops first
    (λ m at on. subst (HavePassedAll m 0 first.lanes first.stops) c.if-not-branch.true (c.in_ok-pass_all.ensures.passed m at on)))

pub loop-i-init : goal.loop-i-init
loop-i-init c =
    let before : Going = record { map = c.args.map.now; lanes = c.args.tracks.now; stops = c.args.stops.now } in
    let first : Going = record { map = c.pass_all.new.map; lanes = c.pass_all.new.tracks; stops = c.pass_all.new.stops } in
    go_begins c.args.version c.args.rows c.args.noted.now before c.requires.fresh c.requires.fresh_stops first c.in_ok-pass_all.ensures.map c.in_ok-pass_all.ensures.looks c.in_ok-pass_all.ensures.stops
    (λ m at on. subst (HavePassedAll m 0 first.lanes first.stops) c.if-not-branch.false (c.in_ok-pass_all.ensures.passed m at on))

pub returns-then-not-branch-2-clause-gone : goal.returns-then-not-branch-2-clause-gone
returns-then-not-branch-2-clause-gone c =
    let before : Going = record { map = c.args.map.now; lanes = c.args.tracks.now; stops = c.args.stops.now } in
    let now : Going = record { map = c.loop-i.map; lanes = c.loop-i.tracks; stops = c.loop-i.stops } in
    let opened : c.count.result / 2 + 2 ≡ opened_of c.args.map.now.ranges = ap (λ (n : ℕ). n / 2 + 2) c.count.ensures in
    let n : Noted = get_or c.args.noted.now c.loop-i.i no_call in
    let is : slice_get c.args.noted.now c.loop-i.i ≡ Some n = slice_get-get_or c.args.noted.now c.loop-i.i no_call (omega (arith, c.loop-i-test.true)) in
    inl (go_refused c.args.version c.args.rows c.args.noted.now before c.loop-i.i n is now c.loop-i.invariant
    (λ answer. iff_false c.in_ok-agrees.ensures.same c.if-not-branch-2.true
    (subst (λ (o : ℕ). IsAnsweredAt c.loop-i.map.kind c.args.version c.args.rows o c.loop-i.i c.loop-i.map.ranges n) (sym opened) answer)))

pub returns-then-not-branch-3-clause-gone : goal.returns-then-not-branch-3-clause-gone
returns-then-not-branch-3-clause-gone c =
    let before : Going = record { map = c.args.map.now; lanes = c.args.tracks.now; stops = c.args.stops.now } in
    let now : Going = record { map = c.loop-i.map; lanes = c.loop-i.tracks; stops = c.loop-i.stops } in
    let then : Going = record { map = c.pass_all-in-loop-i.new.map; lanes = c.pass_all-in-loop-i.new.tracks; stops = c.pass_all-in-loop-i.new.stops } in
    let n : Noted = get_or c.args.noted.now c.loop-i.i no_call in
    let is : slice_get c.args.noted.now c.loop-i.i ≡ Some n = slice_get-get_or c.args.noted.now c.loop-i.i no_call (omega (arith, c.loop-i-test.true)) in
    inr (go_hindered c.args.version c.args.rows c.args.noted.now before c.loop-i.i n is now c.loop-i.invariant c.agrees.new.map then c.in_ok-agrees.ensures.kind c.in_ok-agrees.ensures.map
    (λ m at on. subst (HavePassedAll m (c.loop-i.i + 1) then.lanes then.stops) c.if-not-branch-3.true (c.in_ok-pass_all-2.ensures.passed m at on)))

pub loop-i-preserved : goal.loop-i-preserved
loop-i-preserved c =
    let before : Going = record { map = c.args.map.now; lanes = c.args.tracks.now; stops = c.args.stops.now } in
    let now : Going = record { map = c.loop-i.map; lanes = c.loop-i.tracks; stops = c.loop-i.stops } in
    let then : Going = record { map = c.pass_all-in-loop-i.new.map; lanes = c.pass_all-in-loop-i.new.tracks; stops = c.pass_all-in-loop-i.new.stops } in
    let opened : c.count.result / 2 + 2 ≡ opened_of c.args.map.now.ranges = ap (λ (n : ℕ). n / 2 + 2) c.count.ensures in
    let n : Noted = get_or c.args.noted.now c.loop-i.i no_call in
    let is : slice_get c.args.noted.now c.loop-i.i ≡ Some n = slice_get-get_or c.args.noted.now c.loop-i.i no_call (omega (arith, c.loop-i-test.true)) in
    go_on c.args.version c.args.rows c.args.noted.now before c.loop-i.i n is now c.loop-i.invariant c.agrees.new.map then c.in_ok-agrees.ensures.kind c.in_ok-agrees.ensures.map c.in_ok-pass_all-2.ensures.map
    (subst (λ (o : ℕ). IsAnsweredAt c.loop-i.map.kind c.args.version c.args.rows o c.loop-i.i c.loop-i.map.ranges n) opened (c.in_ok-agrees.ensures.same.0 c.if-not-branch-2.false)) c.in_ok-pass_all-2.ensures.looks c.in_ok-pass_all-2.ensures.stops
    (λ m at on. subst (HavePassedAll m (c.loop-i.i + 1) then.lanes then.stops) c.if-not-branch-3.false (c.in_ok-pass_all-2.ensures.passed m at on))

pub returns-clause-gone : goal.returns-clause-gone
returns-clause-gone c =
    let before : Going = record { map = c.args.map.now; lanes = c.args.tracks.now; stops = c.args.stops.now } in
    let now : Going = record { map = c.loop-i.map; lanes = c.loop-i.tracks; stops = c.loop-i.stops } in
    go_ends c.args.version c.args.rows c.args.noted.now before c.loop-i.i now c.are_done.result (omega (arith, c.loop-i-test.false)) (omega arith) c.loop-i.invariant c.requires.within c.requires.stops_within c.are_done.ensures

pub agrees-requires-clause-map : goal.agrees-requires-clause-map
agrees-requires-clause-map c =
    let before : Going = record { map = c.args.map.now; lanes = c.args.tracks.now; stops = c.args.stops.now } in
    let now : Going = record { map = c.loop-i.map; lanes = c.loop-i.tracks; stops = c.loop-i.stops } in
    map_by_is_map c.args.version c.args.rows c.args.noted.now before c.loop-i.i now c.requires.map c.loop-i.invariant

pub returns-clause-map : goal.returns-clause-map
returns-clause-map c = λ fine.
    let all : c.loop-i.i ≡ length c.args.noted.now = omega (arith, c.loop-i-test.false) in
    record { of_kind = c.loop-i.invariant.kind; ranges = c.loop-i.invariant.ranges ∙ ap (λ (k : ℕ). map_of_noted c.args.map.now.kind c.args.map.now.ranges c.args.noted.now k) all }
