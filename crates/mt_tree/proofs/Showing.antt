-- A pass that was joined with the pen and parted from it knows what the pen showed it.
use Rattle.mt_tree.proofs.Prelude.{◌≡◌, ◌<◌, List, sym, ap, ◌∙◌, subst, arith, AllByRecursion, all_map, History, Record, PassPart, PenPart, Shape, known_by, pen_joined, records_of, WasShown, Tree, opened, passes_of, place_of}
use Rattle.mt_base.specs.Passes as known

pub shown_parted : (tree : History) (pen pen' : PenPart) (p : known.Pass) (before joined q : PassPart) → WasShown tree pen p (known_by joined) → joined ≡ record before { seen = pen.history; ended = pen.ended } → pen' ≡ pen_joined pen
    → q ≡ record joined { ended = pen'.ended } → WasShown tree pen p (known_by q)
shown_parted tree pen pen' p before joined q shown one two three =
    let ended = ap (λ (x : PenPart). x.ended) two ∙ sym (ap (λ (x : PassPart). x.ended) one) in
    subst (λ (x : PassPart). WasShown tree pen p (known_by x)) (sym (three ∙ (λ k. record joined { ended = ended k }))) shown

-- all calls that it was shown are of the tree's passes
pub callers_shown : (t : Tree) (pen : PenPart) (p q : known.Pass) → WasShown (opened t) pen p q → pen.shape ≡ (place_of t).shape → AllByRecursion (λ r. r.pass < passes_of t) q.seen
callers_shown t pen p q shown shape =
    let one = shown.sound.history in
    let dealt = one.dealt in
    let many = ap (λ (x : Shape). x.passes) shape in
    subst (λ (rs : List Record). AllByRecursion (λ r. r.pass < passes_of t) rs) (sym shown.all)
    (all_map (λ (r : Record). r.pass < pen.dealt) (λ (r : Record). r.pass < passes_of t) (λ r low. omega arith) (records_of pen.history) one.callers)
