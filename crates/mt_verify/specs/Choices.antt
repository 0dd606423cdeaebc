-- Reads that are each true after some numbers of calls, and the numbers that are chosen for them.
-- Source: this project's own.
use Rattle.std.specs.Prelude.{◌≡◌, ℕ, ◌+◌, ◌<◌, ◌≤◌, Bool, true}

-- A number is chosen for each of `count` reads, in order. It lies in the read's window, and the read is true at it. If a read
-- knows of an earlier one, its own number is no lower, and the other's is at most one above where its window begins.
pub record AreChosen (count : ℕ) (lo hi : ℕ → ℕ) (IsTrueAt Knows : ℕ → ℕ → Type 0) (k : ℕ → ℕ) : Type 0 where
  pub from : (i : ℕ) → i < count → lo i ≤ k i
  pub to : (i : ℕ) → i < count → k i ≤ hi i
  pub holds : (i : ℕ) → i < count → IsTrueAt i (k i)
  pub rise : (j i : ℕ) → j < i → i < count → Knows i j → k j ≤ k i
  pub floor : (j i : ℕ) → j < i → i < count → Knows i j → k j ≤ lo i + 1

-- what a read knows of is chosen before it is
abbrev pub AreClosed : ℕ → (ℕ → ℕ → Type 0) → (ℕ → Bool) → Type 0
AreClosed count Knows done = (j i : ℕ) → j < i → i < count → Knows i j → done i ≡ true → done j ≡ true

-- The numbers chosen so far are the first: no lower number, from where its window begins and from the numbers of the
-- reads that it knows of, does for a read.
abbrev pub AreFirst : ℕ → (ℕ → ℕ) → (ℕ → ℕ → Type 0) → (ℕ → ℕ → Type 0) → (ℕ → Bool) → (ℕ → ℕ) → Type 0
AreFirst count lo IsTrueAt Knows done k =
    (i m : ℕ) → i < count → done i ≡ true → lo i ≤ m → ((j : ℕ) → j < i → Knows i j → k j ≤ m) → m < k i → IsTrueAt i m
    → ⊥

-- a read that knows of a number too high for its window
pub record IsLate (lo : ℕ → ℕ) (Knows : ℕ → ℕ → Type 0) (k : ℕ → ℕ) (i : ℕ) : Type 0 where
  pub other : ℕ
  pub earlier : other < i
  pub known : Knows i other
  pub late : lo i + 1 < k other

-- a read for which no number does, from those that it knows of
abbrev pub IsNowhere : (ℕ → ℕ) → (ℕ → ℕ) → (ℕ → ℕ → Type 0) → (ℕ → ℕ → Type 0) → (ℕ → ℕ) → ℕ → Type 0
IsNowhere lo hi IsTrueAt Knows k i = (m : ℕ) → lo i ≤ m → m ≤ hi i → ((j : ℕ) → j < i → Knows i j → k j ≤ m)
    → IsTrueAt i m → ⊥

-- a test as a fact
abbrev pub Passes : (ℕ → ℕ → Bool) → ℕ → ℕ → Type 0
Passes test i m = test i m ≡ true
