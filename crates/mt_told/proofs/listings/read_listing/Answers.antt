use Rattle.mt_told.proofs.Prelude.{◌≡◌, ◌≢◌, ◌∙◌, [], length, arith, ap, sym, true≢false, ◌==◌}
use Rattle.mt_told.proofs.Bad.{in_form, no_head, no_more}
use Rattle.mt_told.proofs.listings.read_listing.Goals as goal
use Rattle.mt_told.proofs.listings.read_listing.Goals.{then-found-head-via-then-found-head, then-found-head-via-else-found-head+then-not-is_empty}

pub returns-in_default-clause-refused : goal.returns-in_default-clause-refused
returns-in_default-clause-refused c = no_head c.args.text.now c.in_default.ensures.none

pub returns-then-found-head-clause-refused : goal.returns-then-found-head-clause-refused
returns-then-found-head-clause-refused c =
    let found : c.len-found.result ≡ length c.in_ok-ranges.ranges.items = c.len-found.ensures ∙ c.in_ok-ranges.ranges.ok.0 in
    let more_is : length c.in_ok-ranges.ranges.items ≡ c.in-Some.head.count → c.in_ok-ranges.rest.now ≢ [] =
    λ all none. elim c.then-found-head.branch [
      | then-found-head-via-then-found-head w ↦ omega (arith, w.if-found-head.true, found, all)
      | then-found-head-via-else-found-head+then-not-is_empty w ↦ true≢false (sym (w.is_empty.ensures ∙ ap (λ rest. length rest == 0) none) ∙ w.if-not-is_empty.true)
    ] in
    no_more c.args.text.now c.in-Some.lines.now c.in_ok-ranges.rest.now c.in-Some.head c.in_ok-ranges.ranges.items c.in-Some.ensures.some c.in_ok-ranges.ensures.lines c.in_ok-ranges.ensures.few c.in_ok-ranges.ensures.stop more_is
    c.len-found.result found

pub returns-clause-text : goal.returns-clause-text
returns-clause-text c =
    let found : c.len-found.result ≡ length c.in_ok-ranges.ranges.items = c.len-found.ensures ∙ c.in_ok-ranges.ranges.ok.0 in
    let all : length c.in_ok-ranges.ranges.items ≡ c.in-Some.head.count = omega (arith, found, c.if-found-head.false, c.in_ok-ranges.ensures.few) in
    (in_form c.args.text.now c.in-Some.lines.now c.in_ok-ranges.rest.now c.in-Some.head c.in_ok-ranges.ranges.items c.new.result c.in-Some.ensures.some c.in_ok-ranges.ensures.lines c.if-not-is_empty.ensures all c.new.ensures).1
