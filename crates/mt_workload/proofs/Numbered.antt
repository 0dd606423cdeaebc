-- Lines that are numbered one by one.
use Rattle.mt_workload.proofs.Prelude.{◌≡◌, ℕ, suc, ◌+◌, add-zero, List, [], ◌∷◌, ◌++◌, length, map, arith, ap, refl, ◌∙◌, sym, map-append, length-map, Item, Line, numbered}

abbrev the_line : ℕ → Item → Line
the_line number item = record { number = number; item = item }

abbrev items_of : List Line → List Item
items_of lines = map (λ (line : Line). line.item) lines

numbered_push : (number : ℕ) (items : List Item) (item : Item) → numbered number (items ++ item ∷ []) ≡ numbered number items ++ record { number = number + length items; item = item } ∷ []
numbered_push number [] item = ap (λ k. the_line k item ∷ []) (sym (add-zero number))
numbered_push number (first ∷ items) item =
    let next : number + 1 + length items ≡ number + length (first ∷ items) = omega arith in
    ap (λ z. the_line number first ∷ z) (numbered_push (number + 1) items item ∙ ap (λ k. numbered (number + 1) items ++ the_line k item ∷ []) next)

items_push : (lines : List Line) (number : ℕ) (item : Item) → map (λ (line : Line). line.item) (lines ++ record { number = number; item = item } ∷ []) ≡ map (λ (line : Line). line.item) lines ++ item ∷ []
items_push lines number item = map-append (λ (line : Line). line.item) lines (record { number = number; item = item } ∷ [])

pub one_more : (lines : List Line) (number : ℕ) (item : Item) → lines ≡ numbered 2 (map (λ (line : Line). line.item) lines) → number ≡ length lines + 2
    → lines ++ record { number = number; item = item } ∷ [] ≡ numbered 2 (map (λ (line : Line). line.item) (lines ++ record { number = number; item = item } ∷ []))
one_more lines number item are is =
    let items : List Item = items_of lines in
    let place : 2 + length items ≡ number = omega (arith, is, length-map lines (λ (line : Line). line.item)) in
    ap (λ z. z ++ the_line number item ∷ []) are
    ∙ (ap (λ k. numbered 2 items ++ the_line k item ∷ []) (sym place)
    ∙ (sym (numbered_push 2 items item) ∙ ap (numbered 2) (sym (items_push lines number item))))

pub length-numbered : (number : ℕ) (items : List Item) → length (numbered number items) ≡ length items
length-numbered number [] = refl
length-numbered number (item ∷ items) = ap (λ k. suc k) (length-numbered (number + 1) items)
