use Rattle.mt_verify.proofs.Prelude.{◌≡◌, ℕ, List, ◌++◌, Option, length, sym, ap, ◌∙◌, subst, arith, IfNone, IfSome, slice_get_within, Declared, trees_of, ToldLine, listing_text, HaveGoneTo, CannotGo, GoneTree, IsGoneFrom, OpensAsMap}
use Rattle.mt_verify.proofs.GoingOn.{goes_on, has_source, not_gone, not_listed, opened_kind}
use Rattle.mt_verify.proofs.verifying.next_tree.Goals.{In_ok-map, After-listing_in_front}
use Rattle.mt_verify.proofs.verifying.next_tree.Goals as goal

-- the map that was opened
opens : (c : In_ok-map) → OpensAsMap c.args.account.now.told.items c.args.gone.now.items c.args.declared.now c.in_ok-map.map
opens c = subst (λ (x : List ToldLine × List GoneTree). OpensAsMap x.0 x.1 c.args.declared.now c.in_ok-map.map) (λ i. (c.deref.ensures.value i, c.deref-2.ensures.value i)) c.in_ok-map.ensures.map

kind_is : (c : In_ok-map) → c.in_ok-map.map.kind ≡ c.args.declared.now.tree.kind
kind_is c = opened_kind c.args.log.now c.args.rows c.args.account.now.told.items c.args.account.now.rest.now c.args.gone.now.items c.args.rest.now c.requires.case c.requires.gone c.args.declared.now c.requires.next c.in_ok-map.map (opens c) c.in_ok-map.ensures.empty

-- where the tree was gone through, and how its listing begins
goes : (c : After-listing_in_front) → IsGoneFrom c.args.log.now.version c.args.rows c.args.account.now.told.items (length c.args.gone.now.items) c.in_ok-map.map c.in-Some.one c.go_tree.new.map
goes c =
    let place : c.len-tree.result ≡ length c.args.gone.now.items = omega (arith, c.len-tree.ensures) in
    subst (λ (x : List ToldLine × ℕ). IsGoneFrom c.args.log.now.version c.args.rows x.0 x.1 c.in_ok-map.map c.in-Some.one c.go_tree.new.map) (λ i. (c.deref-3.ensures.value i, place i))
    (subst (λ (o : Option GoneTree). IfSome o (λ (g : GoneTree). IsGoneFrom c.args.log.now.version c.args.rows c.deref-3.result.now c.len-tree.result c.in_ok-map.map g c.go_tree.new.map)) c.in-Some.is c.in_ok-one.ensures.some)

listing : (c : After-listing_in_front) → listing_text (record { name = c.args.declared.now.tree.name; kind = c.args.declared.now.tree.kind; ranges = c.go_tree.new.map.ranges }) ≡ listing_text (record { name = c.declared.inside.name; kind = c.declared.inside.kind; ranges = c.deref-4.result.now })
listing c =
    let ranges : c.go_tree.new.map.ranges ≡ c.deref-4.result.now = sym (c.deref-4.ensures.value ∙ c.in_ok-ranges.ensures.items) in
    (λ i. listing_text (record { name = (sym c.declared.view_is i).tree.name; kind = (sym c.declared.view_is i).tree.kind; ranges = ranges i }))

pub opening_of-requires : goal.opening_of-requires
opening_of-requires c tree phase copy =
    let source = has_source c.args.log.now c.args.rows c.args.account.now.told.items c.args.account.now.rest.now c.args.gone.now.items c.args.rest.now c.requires.case c.requires.gone c.args.declared.now c.requires.next tree phase copy in
    omega (arith, ap length c.deref-2.ensures.value, source)

pub go_tree-requires-clause-kind : goal.go_tree-requires-clause-kind
go_tree-requires-clause-kind c = ap (λ (x : Declared). x.tree.kind) c.declared.view_is ∙ sym (kind_is (goal.at.go_tree-requires-clause-kind c).In_ok-map)

pub go_tree-requires-clause-tree : goal.go_tree-requires-clause-tree
go_tree-requires-clause-tree c = omega (arith, c.len-tree.ensures, slice_get_within (trees_of c.args.log.now.lines) (length c.args.gone.now.items) c.args.declared.now c.requires.next, c.requires.case.readable.few)

pub returns-in_default-clause-none : goal.returns-in_default-clause-none
returns-in_default-clause-none c =
    let at = (goal.at.returns-in_default-clause-none c).In_ok-map in
    let place : c.len-tree.result ≡ length c.args.gone.now.items = omega (arith, c.len-tree.ensures) in
    let cannot : CannotGo c.args.log.now.version c.args.rows c.args.account.now.told.items (length c.args.gone.now.items) c.in_ok-map.map.kind c.in_ok-map.map.ranges =
    subst (λ (x : List ToldLine × ℕ). CannotGo c.args.log.now.version c.args.rows x.0 x.1 c.in_ok-map.map.kind c.in_ok-map.map.ranges) (λ i. (c.deref-3.ensures.value i, place i))
    (subst (λ (o : Option GoneTree). IfNone o (CannotGo c.args.log.now.version c.args.rows c.deref-3.result.now c.len-tree.result c.in_ok-map.map.kind c.in_ok-map.map.ranges)) c.in_default.is c.in_ok-one.ensures.none) in
    not_gone c.args.log.now c.args.rows c.args.account.now.told.items c.args.account.now.rest.now c.args.gone.now.items c.args.rest.now c.requires.case c.requires.gone c.args.declared.now c.requires.next c.in_ok-map.map (opens at) (kind_is at) cannot

pub returns-in_default-listing_in_front-clause-none : goal.returns-in_default-listing_in_front-clause-none
returns-in_default-listing_in_front-clause-none c =
    let at = goal.at.returns-in_default-listing_in_front-clause-none c in
    not_listed c.args.log.now c.args.rows c.args.account.now.told.items c.args.account.now.rest.now c.args.gone.now.items c.args.rest.now c.requires.case c.requires.gone c.args.declared.now c.requires.next c.in_ok-map.map (opens at.In_ok-map) (kind_is at.In_ok-map) c.in-Some.one c.go_tree.new.map (goes at.After-listing_in_front)
    (λ left text. c.in_default-listing_in_front.ensures.none left (text ∙ ap (λ l. l ++ left) (listing at.After-listing_in_front)))

pub returns-clause-some : goal.returns-clause-some
returns-clause-some c =
    let at = goal.at.returns-clause-some c in
    subst (λ (l : List GoneTree). HaveGoneTo c.args.log.now c.args.rows c.args.account.now.told.items c.args.account.now.rest.now l c.in-Some-listing_in_front.left.now) (sym c.in_ok-push.ensures.items)
    (goes_on c.args.log.now c.args.rows c.args.account.now.told.items c.args.account.now.rest.now c.args.gone.now.items c.args.rest.now c.requires.case c.requires.gone c.args.declared.now c.requires.next c.in_ok-map.map (opens at.In_ok-map) (kind_is at.In_ok-map) c.in-Some.one c.go_tree.new.map (goes at.After-listing_in_front) c.in-Some-listing_in_front.left.now (c.in-Some-listing_in_front.ensures.some ∙ ap (λ l. l ++ c.in-Some-listing_in_front.left.now) (sym (listing at.After-listing_in_front))))
