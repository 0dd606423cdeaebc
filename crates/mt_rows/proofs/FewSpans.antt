-- No more spans stand in a row than it has slots, whatever its words are.
use Rattle.mt_rows.proofs.Prelude.{◌≡◌, ℕ, ◌≤◌, length, sym, ap, ◌∙◌, subst, Span, row_in, slots_of, gaps_of, few_items, length-spans_from, base_of, spans_by, spans_in, Tree, NameLaw, kind_on, items_in}

pub row_most : {t : Tree} {h : ℕ} {x : Span} → NameLaw t h x → length (spans_in t.table x) ≤ slots_of t.table.width (kind_on t.gapped h)
row_most {t} {h} {x} name =
    let kind = kind_on t.gapped h in
    let slots = slots_of t.table.width kind in
    let same : length (spans_in t.table x) ≡ length (items_in t.table kind x) = ap length (ap (λ k. spans_by t.table k x) name.named) ∙ length-spans_from x.first (items_in t.table kind x) in
    subst (λ (n : ℕ). n ≤ slots) (sym same) (few_items slots (gaps_of t.table.width kind) t.table.words (base_of t.table (row_in x.word)) x.last slots 0)
