use Rattle.mt_verify.proofs.Prelude.{◌≡◌, Bool, true, false, List, drop, length, map, sym, ap, ◌∙◌, subst, arith, AllPairs, range_with_len, length-map, Contents, ToldLine, Noted, AreStopsWithin, IsGone, IsLastMap, Lane, looks_of, lane_looks, lines_on, looks_by_lane, stops_told, DoNotFall, calls_told, most_lanes}
use Rattle.mt_verify.proofs.GoneTree.{front_is, gone_from, hindered_by, many_noted}
use Rattle.mt_verify.proofs.OwnStops.{NoLower, own_rises, stops_rise, stops_within, windows_within}
use Rattle.mt_verify.proofs.gone.go_calls.Goals.{After-deref_mut}
use Rattle.mt_verify.proofs.gone.go_calls.Goals as goal

-- what is gone through is the tree's own lines: their looks, their stops and as many notes as calls
looks_are : (c : After-deref_mut) → looks_of c.deref_mut.result.now ≡ lane_looks c.args.tree c.args.told.now
looks_are c =
    let own : c.deref.result.now ≡ lines_on c.args.tree c.args.told.now = c.deref.ensures.value ∙ c.in_ok-own.ensures in
    ap looks_of c.deref_mut.ensures.value ∙ (c.in_ok-tracks.ensures.looks ∙ ap (λ (l : List ToldLine). map (looks_by_lane l) (range_with_len 0 most_lanes)) own)

stops_are : (c : After-deref_mut) → c.new-stops.result.stops ≡ stops_told (lines_on c.args.tree c.args.told.now)
stops_are c = c.new-stops.ensures.stops ∙ (c.in_ok-stops_of.ensures ∙ ap stops_told (c.deref-2.ensures.value ∙ c.in_ok-own.ensures))

as_many : (c : After-deref_mut) → length c.deref-3.result.now ≡ length (calls_told c.args.tree c.args.told.now)
as_many c = ap length c.deref-3.ensures.value ∙ many_noted c.args.told.now c.args.tree c.args.calls.now c.args.noted.items c.requires.are c.requires.heard

pub stops_of-requires : goal.stops_of-requires
stops_of-requires c = subst (AllPairs NoLower) (sym (c.deref-2.ensures.value ∙ c.in_ok-own.ensures)) (own_rises c.args.tree c.args.told.now c.requires.phases)

pub go_through-requires-clause-fresh_stops : goal.go_through-requires-clause-fresh_stops
go_through-requires-clause-fresh_stops c =
    let at = (goal.at.go_through-requires-clause-fresh_stops c).After-deref_mut in
    record { next = c.new-stops.ensures.next; rise = subst DoNotFall (sym (stops_are at)) (stops_rise (lines_on c.args.tree c.args.told.now) (own_rises c.args.tree c.args.told.now c.requires.phases)) }

pub go_through-requires-clause-within : goal.go_through-requires-clause-within
go_through-requires-clause-within c =
    let at = (goal.at.go_through-requires-clause-within c).After-deref_mut in
    windows_within c.args.tree c.args.told.now c.deref_mut.result.now (length c.deref-3.result.now) (looks_are at) c.requires.within (as_many at)

pub go_through-requires-clause-stops_within : goal.go_through-requires-clause-stops_within
go_through-requires-clause-stops_within c =
    let at = (goal.at.go_through-requires-clause-stops_within c).After-deref_mut in
    subst (AreStopsWithin (length c.deref-3.result.now)) (sym (stops_are at)) (stops_within c.args.tree c.args.told.now (length c.deref-3.result.now) (as_many at))

pub returns-then-not-branch-clause-none : goal.returns-then-not-branch-clause-none
returns-then-not-branch-clause-none c =
    let at = (goal.at.returns-then-not-branch-clause-none c).After-deref_mut in
    let from : Contents = record { kind = c.args.map.now.kind; ranges = c.args.map.now.ranges } in
    let gone : IsGone c.args.map.now.kind c.args.rules.version c.args.rules.rows c.args.map.now.ranges c.args.noted.items c.go_through.new.tracks c.go_through.new.stops false =
    subst (λ (n : List Noted). IsGone c.args.map.now.kind c.args.rules.version c.args.rules.rows c.args.map.now.ranges n c.go_through.new.tracks c.go_through.new.stops false) c.deref-3.ensures.value
    (subst (λ (fine : Bool). IsGone c.args.map.now.kind c.args.rules.version c.args.rules.rows c.args.map.now.ranges c.deref-3.result.now c.go_through.new.tracks c.go_through.new.stops fine) c.if-not-branch.true c.in_ok-go_through.ensures.gone) in
    hindered_by c.args.rules.version c.args.rules.rows c.args.told.now c.args.tree from from c.args.calls.now c.args.noted.items c.deref_mut.result.now c.go_through.new.tracks c.new-stops.result c.go_through.new.stops c.requires.are c.requires.heard (looks_are at) c.go_through.ensures.looks (stops_are at) c.go_through.ensures.stops gone

pub returns-clause-some : goal.returns-clause-some
returns-clause-some c =
    let at = (goal.at.returns-clause-some c).After-deref_mut in
    let from : Contents = record { kind = c.args.map.now.kind; ranges = c.args.map.now.ranges } in
    let gone : IsGone c.args.map.now.kind c.args.rules.version c.args.rules.rows c.args.map.now.ranges c.args.noted.items c.go_through.new.tracks c.go_through.new.stops true =
    subst (λ (n : List Noted). IsGone c.args.map.now.kind c.args.rules.version c.args.rules.rows c.args.map.now.ranges n c.go_through.new.tracks c.go_through.new.stops true) c.deref-3.ensures.value
    (subst (λ (fine : Bool). IsGone c.args.map.now.kind c.args.rules.version c.args.rules.rows c.args.map.now.ranges c.deref-3.result.now c.go_through.new.tracks c.go_through.new.stops fine) c.if-not-branch.false c.in_ok-go_through.ensures.gone) in
    let last : IsLastMap c.args.map.now.kind c.args.map.now.ranges c.args.noted.items c.go_through.new.map =
    subst (λ (n : List Noted). IsLastMap c.args.map.now.kind c.args.map.now.ranges n c.go_through.new.map) c.deref-3.ensures.value
    (c.in_ok-go_through.ensures.map c.if-not-branch.false) in
    let lanes_kept : length c.go_through.new.tracks ≡ c.in_ok-tracks.tracks.len = omega (arith, length-map c.go_through.new.tracks (λ (t : Lane). t.looks), length-map c.deref_mut.result.now (λ (t : Lane). t.looks), ap length c.go_through.ensures.looks, c.deref_mut.ensures.len) in
    gone_from c.args.rules.version c.args.rules.rows c.args.told.now c.args.tree from c.go_through.new.map c.args.calls.now c.args.noted.items c.deref_mut.result.now c.go_through.new.tracks c.new-stops.result c.go_through.new.stops c.requires.are c.requires.heard (looks_are at) c.go_through.ensures.looks (stops_are at) c.go_through.ensures.stops
    c.new.result (c.new.ensures ∙ (λ k. record { kind = ap (λ (m : Contents). m.kind) c.in_ok-opening.ensures k; opening = ap (λ (m : Contents). m.ranges) c.in_ok-opening.ensures k; noted = c.args.noted.items; lanes = front_is c.go_through.new.tracks (drop (length c.go_through.new.tracks) c.in_ok-tracks.tracks.items) c.in_ok-tracks.tracks.len lanes_kept k })) gone last
