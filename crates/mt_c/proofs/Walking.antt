-- A step of a walk that C keeps.
use Rattle.mt_c.proofs.Prelude.{◌≡◌, ◌∙◌, ℕ, ◌≤◌, false, Option, Some, None, refl, sym, ap, subst, IfSome, le-leb, Kind, Range, Call, Reply, Book, greatest, map_by, OnlyReads, Rooted, Sheet, Parts, RangeWalk, WalksFrom, StepsWithin, found_from, index_behind, OwnTree, IsAsked, found_status, no_range, out_of, IsStepped, HasSteppedOn, walk_index, walk_start, last_index_of, walk_from, OutRange, OutWalk, IsEnded, IsScanned}

-- a walk goes on where a tree was only read
pub walks_if_read : (s s' : Sheet) (walk : RangeWalk) → OnlyReads s s' → WalksFrom s.tree walk → WalksFrom s'.tree walk
walks_if_read s s' walk reads is = subst (λ (x : Sheet). WalksFrom x.tree walk) (sym reads) is

pub walks_if_asked : (e e' : Parts) (walk : RangeWalk) → IsAsked e e' → WalksFrom e.sheet.tree walk → WalksFrom e'.sheet.tree walk
walks_if_asked e e' walk asked is = walks_if_read e.sheet e'.sheet walk asked.rest is

pub ended_if_asked : (e e' : Parts) (calls : ℕ) → IsAsked e e' → calls ≡ e.sheet.ended → calls ≡ e'.sheet.ended
ended_if_asked e e' calls asked count = count ∙ sym (ap (λ (x : Sheet). x.ended) asked.rest)

-- no other reads the nodes of a tree that was read, scanned, or called
pub alone_if_read : (s s' : Sheet) → OnlyReads s s' → s.shared ≡ false → s'.shared ≡ false
alone_if_read s s' reads alone = ap (λ (x : Sheet). x.shared) reads ∙ alone

pub alone_if_asked : (e e' : Parts) → IsAsked e e' → e.sheet.shared ≡ false → e'.sheet.shared ≡ false
alone_if_asked e e' asked alone = alone_if_read e.sheet e'.sheet asked.rest alone

pub alone_if_scanned : (kind : Kind) (s s' : Sheet) (book book' : Book) → IsScanned kind s s' book book' → s.shared ≡ false → s'.shared ≡ false
alone_if_scanned kind s s' book book' scan alone = ap (λ (x : Sheet). x.shared) scan.rest ∙ alone

pub alone_if_ended : (kind : Kind) (s s' : Sheet) (book' : Book) (call : Call) (reply : Reply) → IsEnded kind s s' book' call reply → s.shared ≡ false → s'.shared ≡ false
alone_if_ended kind s s' book' call reply ended alone = ended.shared ∙ alone

-- an index that is kept is one of the tree
start_is : (top : ℕ) (index : Option ℕ) → IfSome index (λ i. i ≤ top) → index ≡ walk_start top index
start_is top None low = refl
start_is top (Some i) low = rw (le-leb i top low) refl

pub kept_start : (t : Rooted) (kept : RangeWalk) (index : Option ℕ) → WalksFrom t kept → kept.next ≡ index → kept.next ≡ walk_start (greatest t.table.width) index
kept_start t kept index walk same = start_is (greatest t.table.width) kept.next walk.within ∙ ap (walk_start (greatest t.table.width)) same

-- what a step loads, where it goes on from the place that is kept
pub stepped_near : (s s' : Sheet) (kept place : RangeWalk) (index : Option ℕ) (found : Option Range) → (kept.next ≡ index → place ≡ kept) → IfSome found (λ _. StepsWithin place s s')
    → kept.next ≡ index → IfSome found (λ _. StepsWithin kept s s')
stepped_near s s' kept place index found same near is = subst (λ (w : RangeWalk). IfSome found (λ _. StepsWithin w s s')) (same is) near

pub stepped_open : (walk walk' : OutWalk) (before after : Option OwnTree) (t t' : OwnTree) (index behind : Option ℕ) (found : Option Range) (status : ℕ) (out : OutRange) → before ≡ Some t → after ≡ Some t'
    → index ≡ walk_index walk → IsStepped t t' index found → behind ≡ t'.place.next → status ≡ found_status found → out ≡ out_of found → walk' ≡ walk_from behind → HasSteppedOn walk before after status out walk'
stepped_open walk walk' before after t t' index behind found status out was is from step ends number shown goes =
    subst (λ (x : Option OwnTree × Option OwnTree). HasSteppedOn walk x.0 x.1 status out walk') (λ i. (sym was i, sym is i))
    (found, subst (λ (o : Option ℕ). IsStepped t t' o found) from step, number, shown, goes ∙ ap walk_from (ends ∙ step.place))

pub stepped_closed : (walk walk' : OutWalk) (before after : Option OwnTree) (status : ℕ) (out : OutRange) → before ≡ None → after ≡ None → status ≡ 9 → out ≡ no_range → walk' ≡ walk
    → HasSteppedOn walk before after status out walk'
stepped_closed walk walk' before after status out was is number shown stays =
    subst (λ (x : Option OwnTree × Option OwnTree). HasSteppedOn walk x.0 x.1 status out walk') (λ i. (sym was i, sym is i)) (refl, number, shown, stays)

-- what the engine tells of a step of a tree
abbrev Steps : OwnTree → Parts → RangeWalk → Option Range → Type 0
Steps m e' place' found =
    IsAsked m.engine e' × (found ≡ found_from (map_by m.engine.sheet.tree) (last_index_of m) m.place.next) × (place'.next ≡ index_behind (last_index_of m) found) × IfSome found (λ _. StepsWithin m.place m.engine.sheet e'.sheet)

-- a step of a tree that stands at the index then, whose fields stand for `inside`
pub stepped : (inside m t : OwnTree) (e' : Parts) (place' : RangeWalk) (index : Option ℕ) (found : Option Range) → inside ≡ m → m.engine ≡ t.engine → m.place.next ≡ walk_start (last_index_of t) index → (t.place.next ≡ index → m.place ≡ t.place)
    → IsAsked inside.engine e' → found ≡ found_from (map_by inside.engine.sheet.tree) (last_index_of inside) inside.place.next → place'.next ≡ index_behind (last_index_of inside) found → IfSome found (λ _. StepsWithin inside.place inside.engine.sheet e'.sheet)
    → IsStepped t (record { engine = e'; place = place' }) index found
stepped inside m t e' place' index found is same start kept asked range behind near =
    let of_m : Steps m e' place' found = subst (λ (x : OwnTree). Steps x e' place' found) is (asked, range, behind, near) in
    let of_t : Steps (record { engine = t.engine; place = m.place }) e' place' found = subst (λ (e : Parts). Steps (record { engine = e; place = m.place }) e' place' found) same of_m in
    record {
      rest = of_t.0;
      range = of_t.1 ∙ ap (found_from (map_by t.engine.sheet.tree) (last_index_of t)) start;
      place = of_t.2;
      near = stepped_near t.engine.sheet e'.sheet t.place m.place index found kept of_t.3;
    }
