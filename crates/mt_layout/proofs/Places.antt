-- Where the words of rows stand: column c of row r is the word columns * r + c. What is told is so for every number of columns.
use Rattle.mt_layout.proofs.Prelude.{◌≡◌, ◌≢◌, ℕ, ◌+◌, ◌*◌, ◌/◌, ◌%◌, ◌<◌, ◌≤◌, ap, sym, subst, ◌∙◌, arith, mul_comm, mul-le-mul_left, mul-add, mul-add-lt, div-mul-add, mod-mul-add, Width, columns, first_row, many_columns}

-- ---- of so many words to a row

-- a word is in one row and one column
pub same_place : (words row other c col : ℕ) → c < words → col < words → words * other + c ≡ words * row + col → (other ≡ row) × (c ≡ col)
same_place words row other c col inside at same =
    let turned : other * words + c ≡ row * words + col = ap (λ (n : ℕ). n + c) (mul_comm other words) ∙ (same ∙ ap (λ (n : ℕ). n + col) (mul_comm words row)) in (
      sym (div-mul-add other words c inside) ∙ (ap (λ (n : ℕ). n / words) turned ∙ div-mul-add row words col at),
      sym (mod-mul-add other words c inside) ∙ (ap (λ (n : ℕ). n % words) turned ∙ mod-mul-add row words col at),
    )

-- a row more is its words more
pub one_row_more : (words rows : ℕ) → words * rows + words ≤ words * (rows + 1)
one_row_more words rows = omega (arith, mul-add words rows 1)

-- ---- of a width

-- another row's words are other words
pub other_place : (width : Width) (row other c col : ℕ) → other ≢ row → c < columns width → col < columns width → columns width * other + c ≢ columns width * row + col
other_place width row other c col apart inside at = λ same. apart (same_place (columns width) row other c col inside at same).0

-- and so are those of another column
pub other_column : (width : Width) (row other c col : ℕ) → c ≢ col → c < columns width → col < columns width → columns width * other + c ≢ columns width * row + col
other_column width row other c col apart inside at = λ same. apart (same_place (columns width) row other c col inside at same).1

-- the words of a row stand among those of the rows
pub place_within : (width : Width) (row rows c : ℕ) → row < rows → c < columns width → columns width * row + c < columns width * rows
place_within width row rows c below inside = subst (λ (n : ℕ). n + c < columns width * rows) (mul_comm row (columns width)) (mul-add-lt row (columns width) c rows below inside)

pub row_within : (width : Width) (row rows : ℕ) → row < rows → columns width * row + columns width ≤ columns width * rows
row_within width row rows below = let most = mul-le-mul_left (columns width) (let next : row + 1 ≤ rows = omega arith in next) in omega (arith, most)

-- and behind those of the rows before it
pub word_behind : (width : Width) (row first c : ℕ) → first ≤ row → columns width * first ≤ columns width * row + c
word_behind width row first c from = let least = mul-le-mul_left (columns width) from in omega (arith, least)

-- so many words stand before the first row, and so many there are in all
pub words_before : (width : Width) → 512 ≤ columns width * first_row
words_before width = omega (arith, many_columns width)

pub words_in_all : (width : Width) (rows : ℕ) → 512 ≤ columns width * (first_row + rows)
words_in_all width rows = let first = words_before width in let more = mul-le-mul_left (columns width) (let low : first_row ≤ first_row + rows = omega arith in low) in omega (arith, first, more)
