-- Calls that only load: one behind another, and what they leave. For the proofs of the crates above.
use Rattle.mt_rows.proofs.Prelude.{◌≡◌, ℕ, Option, sym, ap, ◌∙◌, Sheet, OnlyReads, loaded}

pub one_read : (s s' : Sheet) → s' ≡ loaded s → OnlyReads s s'
one_read s s' is = is ∙ ap (λ (r : Option ℕ). record s { reads = r }) (sym (ap (λ (x : Sheet). x.reads) is))

pub reads_on : (s s' s″ : Sheet) → OnlyReads s s' → OnlyReads s' s″ → OnlyReads s s″
reads_on s s' s″ first second = second ∙ ap (λ (x : Sheet). record x { reads = s″.reads }) first

pub same_tree : (s s' : Sheet) → OnlyReads s s' → s'.tree ≡ s.tree
same_tree s s' rest = ap (λ (x : Sheet). x.tree) rest
