-- What the writer's nodes keep from call to call, and that this makes them whole: the proof of the law that the trait of nodes
-- asks for.
-- Source: this project's own.
use Rattle.std.proofs.Common.{◌≡◌, ℕ, ◌+◌, ◌/◌, ◌<◌, ◌≤◌, Bool, true, false, List, [], ◌∷◌, length, slice_index, refl, arith}
use Rattle.mt_pen.specs.Prelude.{kind_width, first_row, most_rows, Life, New, Draft, Live, Dead, Scan, one_if, HasDied, IsWhole, life_of, Shape, PenPart, table_size, IsScanOf, least_number, Identity}
use Rattle.mt_base.specs.Passes as known
use Rattle.mt_pen.specs.Scans.{epoch_told, is_loaded}
use Rattle.mt_pen.specs.Sheets.{sheet_worked}

-- The tree opened with few nodes: with at most as many as its map needs, which is half its number of ranges, rounded down, and
-- two.
abbrev pub OpensSmall : Shape → Type 0
OpensSmall shape = shape.opened ≤ length shape.opening / 2 + 2

-- What holds of the pen between calls. There are as many words, lives and numbers of handles as there must be. No node was
-- retired by a call that was not begun. The history has the calls that have ended or are published. The last scan's least epoch
-- is that of the holder that it found, whose section was open, and the greatest number if it found none. If scans were made,
-- the section words loaded last are those of the last scan. If none was made, no such word was loaded.
pub record IsWorked (p : PenPart) (scan : Scan) (scans : ℕ) : Type 0 where
  pub rows : p.shape.rows ≤ most_rows
  pub words : length p.words ≡ table_size (kind_width p.shape.kind) p.shape.rows
  pub lives : length p.lives ≡ first_row + p.shape.rows
  pub buried : length p.buried ≡ first_row + p.shape.rows
  pub dead : (row call : ℕ) → life_of p.lives row ≡ Dead call → (1 ≤ call) × (call ≤ p.ended + one_if p.in_flight)
  pub some_pass : 1 ≤ p.shape.passes
  pub passes : length p.cleared ≡ p.shape.passes
  pub cleared : (k : ℕ) → k < p.shape.passes → slice_index p.cleared k ≤ p.ended
  pub count : length p.history ≡ p.ended + one_if p.published
  pub calm : p.in_flight ≡ false → p.published ≡ false
  pub opens : OpensSmall p.shape
  pub least : scan.least ≡ epoch_told scan.by
  pub holder : is_loaded scan.by p.loaded ≡ true
  pub scanned : 1 ≤ scans → IsScanOf p.sections p.shape.passes scan
  pub unscanned : scans ≡ 0 → p.sections ≡ []

died : (ended : ℕ) (in_flight : Bool) (life : Life) → ((call : ℕ) → life ≡ Dead call → (1 ≤ call) × (call ≤ ended + one_if in_flight)) → HasDied ended in_flight life
died ended in_flight New by = tt
died ended in_flight Draft by = tt
died ended in_flight Live by = tt
died ended in_flight (Dead call) by = by call refl

least_most : (xs : List ℕ) (most : ℕ) → 1 ≤ length xs → ((k : ℕ) → k < length xs → slice_index xs k ≤ most) → least_number xs ≤ most
least_most [] most some each = absurd (omega arith)
least_most (x ∷ []) most some each = each 0 (omega (arith))
least_most (x ∷ y ∷ xs) most some each = let h : x ≤ most = each 0 (omega arith) in omega (arith, h)

pub worked_whole : (t : Identity) (p : PenPart) (q : known.Pass) (scan : Scan) (scans : ℕ) → IsWorked p scan scans → IsWhole (sheet_worked t p q scan scans)
worked_whole t p q scan scans w = record {
  few = w.rows;
  words = w.words;
  lives = w.lives;
  buried = w.buried;
  cleared = least_most p.cleared p.ended (rw w.passes w.some_pass) (λ k l. w.cleared k (rw (← w.passes) l));
  dead = λ row. died p.ended p.in_flight (life_of p.lives row) (w.dead row);
}
