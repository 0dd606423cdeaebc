-- How large an image is, by the width of its rows.
use Rattle.mt_image.proofs.Prelude.{◌≡◌, ℕ, ◌+◌, ◌-◌, ◌*◌, ◌/◌, ◌%◌, ◌^◌, ◌<◌, ◌≤◌, arith, Width, Long, Short, Kind, columns, first_row, kind_width, most_rows, image_length}

words_few : (width : Width) (rows : ℕ) → rows ≤ most_rows → rows * columns width ≤ most_rows * 64
words_few Long rows few = omega arith
words_few Short rows few = omega arith

pub words_inside : (kind : Kind) (rows size : ℕ) → size ≡ image_length kind rows → 32 + 8 * (rows * columns (kind_width kind)) ≤ size
words_inside kind rows size is = omega arith

pub few_words : (kind : Kind) (rows : ℕ) → rows ≤ most_rows → rows * columns (kind_width kind) < 2 ^ 32
few_words kind rows few = let most = words_few (kind_width kind) rows few in omega arith

pub short : (kind : Kind) (rows size : ℕ) → rows ≤ most_rows → size ≡ image_length kind rows → size < 2 ^ 32
short kind rows size few is = let most = words_few (kind_width kind) rows few in omega arith

-- so many rows of a width

pub divided : (width : Width) (n size : ℕ) → size ≡ n * columns width → size / columns width ≡ n
divided Long n size is = omega arith
divided Short n size is = omega arith

pub nothing_left : (width : Width) (n size : ℕ) → size ≡ n * columns width → size % columns width ≡ 0
nothing_left Long n size is = omega arith
nothing_left Short n size is = omega arith

-- so many words behind those that no row has
pub words_left : (width : Width) (rows size left : ℕ) → size ≡ columns width * (first_row + rows) → left ≡ size - columns width * first_row → left ≡ rows * columns width
words_left Long rows size left is rest = omega arith
words_left Short rows size left is rest = omega arith

pub all_words : (width : Width) (rows left : ℕ) → left ≡ rows * columns width → columns width * first_row + left ≡ columns width * (first_row + rows)
all_words Long rows left is = omega arith
all_words Short rows left is = omega arith

-- a place before the first row is a column of one of those that there are not
pub before_rows : (width : Width) (at : ℕ) → at < columns width * first_row → (row : ℕ) × (c : ℕ) × (row < first_row) × (c < columns width) × (at ≡ columns width * row + c)
before_rows Long at before = (at / columns Long, at % columns Long, omega arith, omega arith, omega arith)
before_rows Short at before = (at / columns Short, at % columns Short, omega arith, omega arith, omega arith)

pub long_enough : (width : Width) (rows size : ℕ) → size ≡ columns width * (first_row + rows) → columns width * first_row ≤ size
long_enough Long rows size is = omega arith
long_enough Short rows size is = omega arith
