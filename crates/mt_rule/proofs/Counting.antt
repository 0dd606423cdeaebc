-- Stores of the words that count calls and name the root: the table's words still fit.
use Rattle.mt_rule.proofs.Prelude.{◌≡◌, ◌≢◌, ℕ, ◌<◌, ◌≤◌, List, length, sym, ap, ◌∙◌, subst, arith, length-set, get_or-set_other, get_or-set_same, slice_index, slice_set, kind_width, words_before, words_in_all, PenPart, begun_at, commits_at, root_at, section_at, IsSectionWord, IsUnnamed, MtTable, begun_by, WordsFit, shape_told}
use Rattle.mt_rule.proofs.Carrying.{section_later, shaped_as}

pub counter_inside : (t : MtTable) (i : ℕ) → i < 3 → i < t.table.shared.table_id.words
counter_inside t i low = let few = words_in_all (kind_width t.table.shared.key.kind) (shape_told t.table.shared.key).rows in let all = t.words in omega (arith, all, few, low)

module _ (words : List ℕ) (p n : PenPart) (i new : ℕ) (w : WordsFit words p) (low : i < 3) where
  inside : i < length words
  inside = let all = w.size in let few = words_in_all (kind_width p.shape.kind) p.shape.rows in omega (arith, all, few)

  pub here : slice_index (slice_set words i new) i ≡ new
  here = get_or-set_same words i new 0 inside

  pub there : (j : ℕ) → j ≢ i → slice_index (slice_set words i new) j ≡ slice_index words j
  there j off = get_or-set_other words i j new 0 off

  pub counter_sections : (k : ℕ) → slice_index (slice_set words i new) (section_at k) ≡ slice_index words (section_at k)
  counter_sections k = there (section_at k) (λ e. omega arith)

  -- the word that is set has a name
  counter_apart : (j : ℕ) → IsUnnamed p.shape.passes j → j ≢ i
  counter_apart j off e = let a = off.commits in let b = off.begun in let c = off.root in omega arith

  -- the three words are what the pen knows then
  pub counter_set : n.dealt ≡ p.dealt → p.ended ≤ n.ended → n.words ≡ p.words → slice_index (slice_set words i new) commits_at ≡ n.ended → slice_index (slice_set words i new) begun_at ≡ begun_by n
      → slice_index (slice_set words i new) root_at ≡ n.root → WordsFit (slice_set words i new) (shaped_as p n)
  counter_set dealt up same commits begun root = record {
    size = length-set words i new ∙ w.size;
    commits = commits;
    begun = begun;
    root = root;
    sections = λ k few. subst (IsSectionWord n.ended) (sym (counter_sections k)) (section_later p.ended n.ended (slice_index words (section_at k)) up (w.sections k few));
    undealt = λ k not few. counter_sections k ∙ w.undealt k (omega arith) few;
    unnamed = λ j above off. there j (counter_apart j off) ∙ w.unnamed j above off;
    columns = λ j at. (let far = words_before (kind_width p.shape.kind) in there j (λ e. omega arith)) ∙ (w.columns j at ∙ ap (λ (l : List ℕ). slice_index l j) (sym same));
  }
