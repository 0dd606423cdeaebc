use Rattle.mt_read.proofs.Prelude.{rules, ap, ◌≡◌, ℕ, sym, subst, length, Option, Range, Kind, PassPart, identity_of, part_of, known_by, tree_in, Answers, LeftMarked, WasLeftMarked, WasMoved, HasRead, asked, GoesOn, Began}
use Rattle.mt_read.proofs.Finding.{shape_is}
use Rattle.mt_read.proofs.Reading.{kind_goes}
use Rattle.mt_read.proofs.Windows.{read_by}
use Rattle.mt_read.proofs.GivenUp.{HasGivenUp, way_bounded, has_given_up}
use Rattle.mt_read.specs.Ways.{bounded, query_by, whole_query}
use Rattle.mt_read.proofs.ways.near.Given.{Over}
use Rattle.mt_read.proofs.ways.near.Goals.{After-from_residual}
use Rattle.mt_read.proofs.ways.near.Goals as goal

pub returns-clause-read : goal.returns-clause-read
returns-clause-read g c =
    let t = identity_of c.args.table.now in let q = part_of c.args.pass.now in let q₁ = part_of c.begin-section.new.pass in let q₂ = part_of c.near_from-found.new.pass in let q₃ = part_of c.end-begun.new.pass in
    let goes : GoesOn q₁ q₂ = search rules in let found : Answers q₂ (length q₁.seen) (whole_query c.args.way q₁.shape.kind c.args.index) c.in_ok-range.range = search rules in
    let query = query_by c.args.way c.args.index c.args.bound in
    read_by t q q₁ q₂ q₃ c.epoch-lo.result c.end-begun.result (shape_is t c.args.pass.now c.requires.pass) (subst (λ (n : ℕ). Began n q q₁) (sym c.epoch-lo.ensures) c.begin-section.ensures.began) _ goes c.end-begun.ensures.ended query c.bounded.result (subst (λ (v : Option Range). Answers q₂ (length q₁.seen) query v) (sym c.bounded.ensures) (way_bounded c.args.way q₂ q₁.shape.kind (length q₁.seen) c.args.index c.args.bound c.in_ok-range.range (kind_goes q₁ q₂ goes) found)) c.end-begun.ensures.sound

-- what is told where it gave up
gave_up : (g : Over) (c : After-from_residual g) → HasGivenUp (identity_of c.args.table.now) (part_of c.args.pass.now) (part_of c.end-begun.new.pass) (whole_query c.args.way (part_of c.args.pass.now).shape.kind c.args.index) c.epoch-lo.result c.end-begun.result
gave_up g c =
    let t = identity_of c.args.table.now in let q = part_of c.args.pass.now in let q₁ = part_of c.begin-section.new.pass in let q₂ = part_of c.near_from-found.new.pass in let q₃ = part_of c.end-begun.new.pass in
    let left : LeftMarked (asked q₁.shape.kind (whole_query c.args.way q₁.shape.kind c.args.index)) (length q₁.seen) q₁ q₂ = search rules in
    let kind : q₁.shape.kind ≡ q.shape.kind = ap (λ (z : PassPart). z.shape.kind) c.begin-section.ensures.began.is in
    subst (λ (k : Kind). HasGivenUp t q q₃ (whole_query c.args.way k c.args.index) c.epoch-lo.result c.end-begun.result) kind
    (has_given_up t q q₁ q₂ q₃ (whole_query c.args.way q₁.shape.kind c.args.index) c.epoch-lo.result c.end-begun.result (shape_is t c.args.pass.now c.requires.pass) (subst (λ (n : ℕ). Began n q q₁) (sym c.epoch-lo.ensures) c.begin-section.ensures.began) left c.end-begun.ensures.ended c.end-begun.ensures.sound)

pub returns-in_err-range-clause-left : goal.returns-in_err-range-clause-left
returns-in_err-range-clause-left g c = let told : WasLeftMarked (whole_query c.args.way (part_of c.args.pass.now).shape.kind c.args.index) c.epoch-lo.result c.end-begun.result (part_of c.args.pass.now) (part_of c.end-begun.new.pass) = (gave_up g (goal.at.returns-in_err-range-clause-left g c).After-from_residual).left in search rules

-- a call since then has moved what it sought
pub returns-in_err-range-clause-moved : goal.returns-in_err-range-clause-moved
returns-in_err-range-clause-moved g c = let told : WasMoved (tree_in (identity_of c.args.table.now)) (known_by (part_of c.args.pass.now)) c.epoch-lo.result c.end-begun.result (known_by (part_of c.end-begun.new.pass)) = (gave_up g (goal.at.returns-in_err-range-clause-moved g c).After-from_residual).moved in search rules

pub returns-in_err-range-clause-given_up : goal.returns-in_err-range-clause-given_up
returns-in_err-range-clause-given_up g c = let told : HasRead c.epoch-lo.result c.end-begun.result (known_by (part_of c.args.pass.now)) (known_by (part_of c.end-begun.new.pass)) = (gave_up g (goal.at.returns-in_err-range-clause-given_up g c).After-from_residual).given_up in search rules
