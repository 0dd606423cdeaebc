-- A read under the lock is one of the whole history.
use Rattle.mt_tree.proofs.Prelude.{◌≡◌, ℕ, ◌≤◌, List, [], Option, length, take, sym, ap, ◌∙◌, arith, take-length, length-map, Range, Query, answer, Record, last_map, map_at, Read, with_records, saw_grows, begins_long, map_by, Moment, Shape, record_of, records_of, tree_of, Pass, Tree, Behind, LookedBehind, map_seen, opened, pass_in}
use Rattle.mt_base.specs.Passes as known

pub map_is : (shape shape' : Shape) (h : List Moment) (seen : List Record) → shape ≡ shape' → seen ≡ records_of h → last_map (tree_of shape h) ≡ last_map (with_records (tree_of shape' []) seen)
map_is shape shape' h seen same all = λ i. last_map (record { kind = (same i).kind; rows = (same i).rows; opening = (same i).opening; records = sym all i })

pub take_all : {X : Type 0} (xs : List X) (n : ℕ) → n ≡ length xs → take n xs ≡ xs
take_all xs n is = ap (λ (k : ℕ). take k xs) is ∙ take-length xs

-- a look at all that is behind the lock answers a query
pub asked : (t : Tree) (b b' : Behind) (p q : Pass) (n : ℕ) (query : Query) (value : Option Range) → LookedBehind t b b' p q → n ≡ length b.pen.history → value ≡ answer (map_by b.parts.sheet.tree) query
    → Read (opened t) (pass_in p) n n n query value (pass_in q)
asked t b b' p q n query value looked count is =
    let saw = looked.saw in
    let seen : List Record = (pass_in q).seen in
    let same : seen ≡ records_of b.pen.history = looked.seen ∙ looked.state.records in
    let long : n ≡ length seen = count ∙ (sym (length-map b.pen.history record_of) ∙ ap length (sym same)) in
    let ended : (pass_in q).ended ≡ length seen = ap (λ (x : known.Pass). x.ended) saw.pass in
    let whole : map_at (with_records (opened t) seen) n ≡ map_seen t (pass_in q) = ap (λ (rs : List Record). last_map (with_records (opened t) rs)) (take_all seen n long) in
    let begins : length (pass_in p).seen ≤ length seen = begins_long (pass_in p).seen seen saw.seen in
    record {
      grows = saw_grows (opened t) (pass_in p) (pass_in q) saw;
      true = record { from = omega arith; to = omega arith; made = omega arith; answered = is ∙ ap (λ (m : List Range). answer m query) (looked.words.map ∙ sym whole) };
      from = omega arith;
      floor = omega arith;
      before = omega (arith, saw.ended);
      lo_known = omega arith;
      hi_known = omega arith;
      sound = saw.sound;
    }
