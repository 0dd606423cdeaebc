use Rattle.mt_log.proofs.Prelude.{◌≡◌, ℕ, List, ◌∷◌, ◌++◌, length, sym, Result, Ok, Err, take, refl, take_at, Why, Keyword, ◌>>=◌, ReadSoFar, item_of, item_by, keyword_read, tree_item, dup_item, check_item, lane_item, join_item, range_item, area_item, area_entry_item, index_item, bound_item, scan_item, whole_item}
use Rattle.mt_log.specs.declared.faults.Why.TheVariants as why
use Rattle.mt_log.specs.declared.keywords.Keyword.TheVariants.{Tree}

-- no word takes six fields or more
too_many : (k : Keyword) (r : ReadSoFar) (a b c d e f : List ℕ) (more : List (List ℕ)) → item_by k r (a ∷ b ∷ c ∷ d ∷ e ∷ f ∷ more) ≡ Err why.Fields
unfolding item_by tree_item dup_item check_item lane_item join_item range_item area_item area_entry_item index_item bound_item scan_item whole_item
too_many Tree r a b c d e f more = refl
too_many k r a b c d e f more = refl

either_way : (word : Result Keyword Why) (r : ReadSoFar) (a b c d e f : List ℕ) (more others : List (List ℕ)) → (word >>= λ k. item_by k r (a ∷ b ∷ c ∷ d ∷ e ∷ f ∷ more)) ≡ (word >>= λ k. item_by k r (a ∷ b ∷ c ∷ d ∷ e ∷ f ∷ others))
either_way (Ok k) r a b c d e f more others = rw (too_many k r a b c d e f more, too_many k r a b c d e f others) refl
either_way (Err e') r a b c d e f more others = refl

-- the first eight fields of a line say what all of them say
pub first_fields : (r : ReadSoFar) (fields : List (List ℕ)) → item_of r (take 8 fields) ≡ item_of r fields
unfolding item_of
first_fields r (w ∷ a ∷ b ∷ c ∷ d ∷ e ∷ f ∷ more) = either_way (keyword_read w) r a b c d e f (take 1 more) more
first_fields r fields = refl

-- where the first fields are as many as are wanted, nothing else of the others matters
pub first_of : {A : Type 0} (n : ℕ) (xs others all : List A) → xs ++ others ≡ all → length xs ≡ n → xs ≡ take n all
first_of n xs others all whole many = rw (← whole) (sym (take_at xs others n many))
