use Rattle.mt_told.proofs.Prelude.{◌≡◌, ◌++◌, ◌∙◌, List, ℕ, ap, length, sym, Listing, head_line}
use Rattle.mt_told.proofs.Compared.{no_head, no_listing}
use Rattle.mt_told.proofs.comparing.listing_in_front.Goals as goal

pub returns-in_err-lines-clause-none : goal.returns-in_err-lines-clause-none
returns-in_err-lines-clause-none c =
    let l : Listing = record { name = c.args.name.now; kind = c.args.kind; ranges = c.args.ranges.now } in
    let head : c.as_bytes.result.now ≡ head_line l.name l.kind (length l.ranges) = c.as_bytes.ensures ∙ c.put_head.ensures in
    rw c.from_residual.ensures (no_head l c.args.text.now (λ rest is. c.in_err-lines.ensures.none rest (is ∙ ap (λ (h : List ℕ). h ++ rest) (sym head))))

pub returns-clause-none : goal.returns-clause-none
returns-clause-none c =
    let l : Listing = record { name = c.args.name.now; kind = c.args.kind; ranges = c.args.ranges.now } in
    let head : c.as_bytes.result.now ≡ head_line l.name l.kind (length l.ranges) = c.as_bytes.ensures ∙ c.put_head.ensures in
    no_listing l c.args.text.now c.in_ok-lines.lines.now c.behind_ranges.result (c.in_ok-lines.ensures.some ∙ ap (λ (h : List ℕ). h ++ c.in_ok-lines.lines.now) head) c.behind_ranges.ensures.none
