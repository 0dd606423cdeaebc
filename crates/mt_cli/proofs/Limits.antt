-- The numbers of a command lie within their limits.
use Rattle.mt_cli.proofs.Prelude.{◌≡◌, ◌≤◌, ◌&&◌, ℕ, Bool, true, false, List, [], ◌∷◌, Option, Some, None, drop, take, refl, subst, sym, codes, IfSome, if◌then◌else◌, nat_le, option_and_then, option_map, bytes_eq, digits_value, leb-true, most_rows, IsWithin, bulk_of, command_of, ids_of, make_of, rows_said, rows_word, show_of, trial_of, greatest_number, is_number, most_index, most_workers, number_in, Command, Bulk, Ids, Image, Make, Replay, Trial, Verify, fewest_rows, most_lanes, most_steps}

abbrev IsBetween : ℕ → ℕ → ℕ → Type 0
IsBetween least most n = (least ≤ n) × (n ≤ most)

number_within : (least most : ℕ) (word : List ℕ) → IfSome (number_in least most word) (IsBetween least most)
number_within least most word = go (is_number word) (nat_le least (digits_value 10 word)) refl (nat_le (digits_value 10 word) most) refl
  where
    go : (a b : Bool) → nat_le least (digits_value 10 word) ≡ b → (c : Bool) → nat_le (digits_value 10 word) most ≡ c
        → IfSome (if a && b && c then Some (digits_value 10 word) else None) (IsBetween least most)
    go true true low true high = (leb-true least (digits_value 10 word) low, leb-true (digits_value 10 word) most high)
    go true true low false high = tt
    go true false low c high = tt
    go false b low c high = tt

mapped : {X Y : Type 0} (o : Option X) (f : X → Y) (P : X → Type 0) (Q : Y → Type 0) → IfSome o P → ((x : X) → P x → Q (f x)) → IfSome (option_map f o) Q
mapped None f P Q some so = tt
mapped (Some x) f P Q some so = so x some

chained : {X Y : Type 0} (o : Option X) (f : X → Option Y) (P : X → Type 0) (Q : Y → Type 0) → IfSome o P → ((x : X) → P x → IfSome (f x) Q) → IfSome (option_and_then f o) Q
chained None f P Q some so = tt
chained (Some x) f P Q some so = so x some

either : {X : Type 0} (P : X → Type 0) (b : Bool) (x y : Option X) → IfSome x P → IfSome y P → IfSome (if b then x else y) P
either P true x y here there = here
either P false x y here there = there

rows_within : (words : List (List ℕ)) → IfSome (rows_said words) (IsBetween fewest_rows most_rows)
rows_within [] = (leb-true fewest_rows most_rows refl, leb-true most_rows most_rows refl)
rows_within (word ∷ []) = either (IsBetween fewest_rows most_rows) (bytes_eq (take 7 word) (codes "--rows=")) (rows_word (drop 7 word)) None (number_within fewest_rows most_rows (drop 7 word)) tt
rows_within (option ∷ word ∷ []) = either (IsBetween fewest_rows most_rows) (bytes_eq option (codes "--rows")) (rows_word word) None (number_within fewest_rows most_rows word) tt
rows_within (first ∷ second ∷ third ∷ words) = tt

replay_within : (words : List (List ℕ)) → IfSome (option_map Replay (rows_said words)) IsWithin
replay_within words = mapped (rows_said words) Replay (IsBetween fewest_rows most_rows) IsWithin (rows_within words) (λ rows within. within)

verify_within : (words : List (List ℕ)) → IfSome (option_map Verify (rows_said words)) IsWithin
verify_within words = mapped (rows_said words) Verify (IsBetween fewest_rows most_rows) IsWithin (rows_within words) (λ rows within. within)

image_within : (words : List (List ℕ)) → IfSome (option_map Image (rows_said words)) IsWithin
image_within words = mapped (rows_said words) Image (IsBetween fewest_rows most_rows) IsWithin (rows_within words) (λ rows within. within)

show_within : (words : List (List ℕ)) → IfSome (show_of words) IsWithin
show_within [] = tt
show_within (word ∷ words) = tt

make_within : (words : List (List ℕ)) → IfSome (make_of words) IsWithin
make_within [] = tt
make_within (number ∷ []) = tt
make_within (number ∷ steps ∷ []) = tt
make_within (number ∷ steps ∷ lanes ∷ []) =
    chained (number_in 0 greatest_number number) (λ n. option_and_then (λ s. option_map (Make n s) (number_in 1 most_lanes lanes)) (number_in 1 most_steps steps)) (IsBetween 0 greatest_number) IsWithin
    (number_within 0 greatest_number number) (λ n n_within.
    chained (number_in 1 most_steps steps) (λ s. option_map (Make n s) (number_in 1 most_lanes lanes)) (IsBetween 1 most_steps) IsWithin (number_within 1 most_steps steps) (λ s s_within.
    mapped (number_in 1 most_lanes lanes) (Make n s) (IsBetween 1 most_lanes) IsWithin (number_within 1 most_lanes lanes) (λ l l_within. (n_within.1, s_within.0, s_within.1, l_within.0, l_within.1))))
make_within (number ∷ steps ∷ lanes ∷ more ∷ words) = tt

trial_within : (words : List (List ℕ)) → IfSome (trial_of words) IsWithin
trial_within [] = tt
trial_within (number ∷ []) = tt
trial_within (number ∷ steps ∷ []) =
    chained (number_in 0 greatest_number number) (λ n. option_map (Trial n) (number_in 1 most_steps steps)) (IsBetween 0 greatest_number) IsWithin
    (number_within 0 greatest_number number) (λ n n_within.
    mapped (number_in 1 most_steps steps) (Trial n) (IsBetween 1 most_steps) IsWithin (number_within 1 most_steps steps) (λ s s_within. (n_within.1, s_within.0, s_within.1)))
trial_within (number ∷ steps ∷ more ∷ words) = tt

bulk_within : (words : List (List ℕ)) → IfSome (bulk_of words) IsWithin
bulk_within [] = tt
bulk_within (workers ∷ []) = mapped (number_in 1 most_workers workers) Bulk (IsBetween 1 most_workers) IsWithin (number_within 1 most_workers workers) (λ n within. within)
bulk_within (workers ∷ more ∷ words) = tt

ids_within : (words : List (List ℕ)) → IfSome (ids_of words) IsWithin
ids_within [] = tt
ids_within (lo ∷ []) = tt
ids_within (lo ∷ hi ∷ []) = tt
ids_within (lo ∷ hi ∷ steps ∷ []) = tt
ids_within (lo ∷ hi ∷ steps ∷ drops ∷ []) =
    chained (number_in 0 most_index lo) (λ l. option_and_then (λ h. option_and_then (λ s. option_map (Ids l h s) (number_in 1 s drops)) (number_in 1 most_steps steps)) (number_in l most_index hi))
    (IsBetween 0 most_index) IsWithin (number_within 0 most_index lo) (λ l l_within.
    chained (number_in l most_index hi) (λ h. option_and_then (λ s. option_map (Ids l h s) (number_in 1 s drops)) (number_in 1 most_steps steps)) (IsBetween l most_index) IsWithin
    (number_within l most_index hi) (λ h h_within.
    chained (number_in 1 most_steps steps) (λ s. option_map (Ids l h s) (number_in 1 s drops)) (IsBetween 1 most_steps) IsWithin (number_within 1 most_steps steps) (λ s s_within.
    mapped (number_in 1 s drops) (Ids l h s) (IsBetween 1 s) IsWithin (number_within 1 s drops) (λ d d_within. (h_within.0, h_within.1, s_within.0, s_within.1, d_within.0, d_within.1)))))
ids_within (lo ∷ hi ∷ steps ∷ drops ∷ more ∷ words) = tt

of_words : (words : List (List ℕ)) → IfSome (command_of words) IsWithin
of_words [] = tt
of_words (word ∷ words) =
    let ids : Option Command = if bytes_eq word (codes "ids") then ids_of words else None in
    let built : Option Command = if bytes_eq word (codes "bulk") then bulk_of words else ids in
    let shown : Option Command = if bytes_eq word (codes "show") then show_of words else built in
    let drawn : Option Command = if bytes_eq word (codes "image") then option_map Image (rows_said words) else shown in
    let judged : Option Command = if bytes_eq word (codes "verify") then option_map Verify (rows_said words) else drawn in
    let tried : Option Command = if bytes_eq word (codes "trial") then trial_of words else judged in
    let made : Option Command = if bytes_eq word (codes "make") then make_of words else tried in
    either IsWithin (bytes_eq word (codes "replay")) (option_map Replay (rows_said words)) made (replay_within words)
    (either IsWithin (bytes_eq word (codes "make")) (make_of words) tried (make_within words)
    (either IsWithin (bytes_eq word (codes "trial")) (trial_of words) judged (trial_within words)
    (either IsWithin (bytes_eq word (codes "verify")) (option_map Verify (rows_said words)) drawn (verify_within words)
    (either IsWithin (bytes_eq word (codes "image")) (option_map Image (rows_said words)) shown (image_within words)
    (either IsWithin (bytes_eq word (codes "show")) (show_of words) built (show_within words)
    (either IsWithin (bytes_eq word (codes "bulk")) (bulk_of words) ids (bulk_within words)
    (either IsWithin (bytes_eq word (codes "ids")) (ids_of words) None (ids_within words) tt)))))))

pub command_within : (command : Option Command) (words : List (List ℕ)) → command ≡ command_of words → IfSome command IsWithin
command_within command words is = subst (λ (c : Option Command). IfSome c IsWithin) (sym is) (of_words words)
