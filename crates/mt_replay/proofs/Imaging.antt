-- The image of a player's first tree is one of a run of its log.
use Rattle.mt_replay.proofs.Prelude.{◌≡◌, ◌≢◌, ℕ, ◌<◌, List, [], ◌∷◌, Some, length, slice_get, arith, refl, subst, Kind, last_map, IsImageOfMap, Line, Log, Transcript, listings_of, Declared, trees_of, Tracked, histories_of, IsImageOfRun, PlayerState, HasImage, IsPlayed}
use Rattle.mt_replay.proofs.LogPhases.{run_of}

some_declared : (declared : List Declared) (trees : List Tracked) → length trees ≡ length declared → declared ≢ [] → 0 < length trees
some_declared [] trees same some = absurd (some refl)
some_declared (d ∷ declared) trees same some = omega (arith, same)

-- where a log declares a tree, its player has one
pub some_tree : (phase : ℕ) (lines : List Line) (p : PlayerState) (count : ℕ) → IsPlayed phase lines p → length p.trees ≡ count → trees_of lines ≢ [] → 0 < count
some_tree phase lines p count played trees some = omega (arith, some_declared (trees_of lines) p.trees played.1.ran.count some, trees)

-- the first listing is of the first tree
record FirstOf (declared : List Declared) (trees : List Tracked) (t : Tracked) : Type 0 where
  pub tree : Declared
  pub tree_is : slice_get declared 0 ≡ Some tree
  pub listed : slice_get (listings_of declared (histories_of trees)) 0 ≡ Some (record { name = tree.tree.name; kind = tree.tree.kind; ranges = last_map t.history })

first_of : (declared : List Declared) (trees : List Tracked) (t : Tracked) → length trees ≡ length declared → slice_get trees 0 ≡ Some t → FirstOf declared trees t
first_of declared [] t same is = absurd (cc)
first_of [] (x ∷ trees) t same is = absurd (omega (arith, same))
first_of (d ∷ declared) (x ∷ trees) t same is =
    let here : x ≡ t = cc in
    record { tree = d; tree_is = refl; listed = λ i. Some (record { name = d.tree.name; kind = d.tree.kind; ranges = last_map (here i).history }) }

pub image_of_run : (log : Log) (rows phase : ℕ) (p : PlayerState) (bytes : List ℕ) → p.rows ≡ rows → IsPlayed phase log.lines p → HasImage p 0 bytes → IsImageOfRun rows log bytes
image_of_run log rows phase p bytes rows_are played has =
    let t : Transcript = record { version = log.version; entries = p.entries; lists = listings_of (trees_of log.lines) (histories_of p.trees) } in
    let first = first_of (trees_of log.lines) p.trees has.tree played.1.ran.count has.tree_is in
    let kind : has.tree.history.kind ≡ first.tree.tree.kind = (played.1.ran.opened 0 first.tree has.tree first.tree_is has.tree_is).kind in
    record {
      transcript = t;
      run = run_of log log.lines rows phase t p refl rows_are played refl refl (λ known. refl);
      first = record { name = first.tree.tree.name; kind = first.tree.tree.kind; ranges = last_map has.tree.history };
      first_is = first.listed;
      image = subst (λ (k : Kind). IsImageOfMap k (last_map has.tree.history) bytes) kind has.image;
    }
