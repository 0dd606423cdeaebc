-- The subcommands as `clap` builds them.
use Rattle.mt_cli.proofs.Prelude.{◌≡◌, [], ◌∷◌, refl, true, codes, is_simple_and_free, Shape, built, built_leaf, inherited, is_simple, marked_built, on_top, with_leaf_noted, Text, bulk_app, grammar, ids_app, make_app, rows_app, show_app, trial_app}
use Rattle.mt_cli.proofs.Sorts.{NoShorts}

abbrev above : Shape
above = (on_top with_leaf_noted (on_top marked_built grammar)).top

abbrev pub rows_shape : Text → Shape
rows_shape verb = built_leaf (inherited above (rows_app verb).top)

abbrev pub make_shape : Shape
make_shape = built_leaf (inherited above make_app.top)

abbrev pub trial_shape : Shape
trial_shape = built_leaf (inherited above trial_app.top)

abbrev pub show_shape : Shape
show_shape = built_leaf (inherited above show_app.top)

abbrev pub bulk_shape : Shape
bulk_shape = built_leaf (inherited above bulk_app.top)

abbrev pub ids_shape : Shape
ids_shape = built_leaf (inherited above ids_app.top)

pub subs_are : (built grammar).subs
    ≡ rows_shape (codes "replay") ∷ make_shape ∷ trial_shape ∷ rows_shape (codes "verify") ∷ rows_shape (codes "image") ∷ show_shape ∷ bulk_shape ∷ ids_shape ∷ []
subs_are = refl

pub simple : is_simple grammar ≡ true
simple = refl

pub simple_and_free : is_simple_and_free grammar ≡ true
simple_and_free = refl

pub rows_no_shorts : (verb : Text) → NoShorts (rows_shape verb)
rows_no_shorts verb x = refl

pub make_no_shorts : NoShorts make_shape
make_no_shorts x = refl

pub trial_no_shorts : NoShorts trial_shape
trial_no_shorts x = refl

pub show_no_shorts : NoShorts show_shape
show_no_shorts x = refl

pub bulk_no_shorts : NoShorts bulk_shape
bulk_no_shorts x = refl

pub ids_no_shorts : NoShorts ids_shape
ids_no_shorts x = refl
