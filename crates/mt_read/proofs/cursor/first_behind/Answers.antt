use Rattle.mt_read.proofs.Prelude.{rules, refl, inl, inr, subst, sym, part_of, GoesOn, GoesOnTo, IsOnKeptLeaf, IsOver}
use Rattle.mt_read.proofs.Descending.{goes_to, marks_are}
use Rattle.mt_read.proofs.Leaves.{reached_still, reached_then}
use Rattle.mt_read.proofs.cursor.first_behind.Goals as goal

pub returns-in-Some-first_at_kept-clause-short : goal.returns-in-Some-first_at_kept-clause-short
returns-in-Some-first_at_kept-clause-short g c over = inl c.first_at_kept.ensures.steps

pub returns-in-None-clause-gone : goal.returns-in-None-clause-gone
returns-in-None-clause-gone g c =
    let q = part_of c.args.pass.now in let q₁ = part_of c.first_at_kept.new.pass in let q₂ = part_of c.first_anew-in-None.new.pass in
    let anew = c.first_anew-in-None.ensures in
    record {
      stepped = search rules;
      goes = subst (GoesOnTo q q₂) (sym (marks_are q₁ q₂ q₁.marks anew.goes)) (goes_to q q₁ q₂ _ q₁.marks c.in-None.ensures.marked.goes anew.goes);
      kept = anew.kept;
      lo = inr anew.lo;
    }

-- the leaf stays
pub returns-in-Some-first_at_kept-clause-stays : goal.returns-in-Some-first_at_kept-clause-stays
returns-in-Some-first_at_kept-clause-stays g c over = inl refl

pub returns-in-Some-first_at_kept-clause-reached : goal.returns-in-Some-first_at_kept-clause-reached
returns-in-Some-first_at_kept-clause-reached g c =
    let q = part_of c.args.pass.now in let q₁ = part_of c.first_at_kept.new.pass in
    let goes : GoesOn q q₁ = search rules in
    let on : IsOnKeptLeaf q c.in-Some.kept = search rules in
    reached_still q q₁ c.in-Some.kept goes.under on c.first_at_kept.ensures.kept

-- it is over the index
pub returns-in-None-clause-far : goal.returns-in-None-clause-far
returns-in-None-clause-far g c away =
    let over : IsOver c.args.leaf.now c.args.index = search rules in
    absurd (away over)

pub returns-in-None-clause-reached : goal.returns-in-None-clause-reached
returns-in-None-clause-reached g c =
    let q = part_of c.args.pass.now in let q₁ = part_of c.first_at_kept.new.pass in let q₂ = part_of c.first_anew-in-None.new.pass in
    let on : IsOnKeptLeaf q c.in-Some.kept = search rules in
    reached_then q q₁ q₂ (reached_still q q₁ c.in-Some.kept c.in-None.ensures.marked.goes.under on c.first_at_kept.ensures.kept) c.first_anew-in-None.ensures.reached
