-- A tree whose words, nodes and book agree, and a call in flight on it.
-- Source: this project's own; the kernel's writers hold the tree's lock, and free nodes after a grace period.
use Rattle.std.specs.Prelude.{◌≡◌, ◌+◌, ◌<◌, ◌≤◌, ℕ, Bool, true, false, List, All}
use Rattle.mt_splice.specs.Prelude.{Kind, first_row, Book, StampedRow, IsBook, IsOut, Life, New, Draft, Live, Dead, Rooted, life_of, IsLawfulOf, IsReached, LiveAreReached, NoneBuried}

-- a node that no reader can hold: it was never used, or its death is cleared
abbrev pub IsUnheld : ℕ → Life → Type 0
IsUnheld cleared New = Unit {0}
IsUnheld cleared Draft = ⊥
IsUnheld cleared Live = ⊥
IsUnheld cleared (Dead call) = call ≤ cleared

-- the book is of these nodes: those that are out are those that are reached, its free nodes are spare, and its stamps are below
-- `number`
pub record IsBookOf (t : Rooted) (lives : List Life) (cleared : ℕ) (book : Book) (number : ℕ) : Type 0 where
  pub sound : IsBook book
  pub rows : book.rows ≡ t.rows
  pub out : (row : ℕ) → first_row ≤ row → row < first_row + t.rows → IsOut book row → IsReached t row
  pub reached : (row : ℕ) → IsReached t row → IsOut book row
  pub spare : All (λ row. IsUnheld cleared (life_of lives row)) book.free
  pub stamps : All (λ (h : StampedRow). h.stamp < number) book.held

-- The words of a tree of this kind are well-formed, the live nodes are those that are reached, none is marked dead, and the
-- book is of these nodes.
pub record IsConsistent (kind : Kind) (t : Rooted) (lives : List Life) (buried : List Bool) (cleared : ℕ) (book : Book) (number : ℕ) : Type 0 where
  pub lawful : IsLawfulOf t kind
  pub live : LiveAreReached t lives
  pub none_buried : NoneBuried t.rows buried
  pub booked : IsBookOf t lives cleared book number

-- the call of this number is in flight and has published nothing
pub record IsUnpublished (flies published : Bool) (ended number : ℕ) : Type 0 where
  pub in_flight : flies ≡ true
  pub before : published ≡ false
  pub numbered : number ≡ ended + 1
