-- The tree of a log that comes next is gone through, behind those that were.
use Rattle.mt_verify.proofs.Prelude.{◌≡◌, ℕ, ◌<◌, List, [], ◌∷◌, ◌++◌, Some, length, take, slice_get, refl, sym, ap, ◌∙◌, subst, inl, inr, arith, flat_map, flat_map-append, append-nil, append_assoc, same_Some, slice_get_within, Kind, Range, IsMap, Contents, Log, Listing, listing_text, Declared, Opening, Empty, CopyOf, trees_of, ToldLine, HaveGoneTo, IsGoneTree, NoneIsTold, OpensGone, listing_by, listings_by, calls_of_phases_before, CannotGo, GoneTree, IsGoneFrom, OpensAsMap, just_opened, IsOfLog}
use Rattle.mt_verify.proofs.AllRefused.{ends_so, next_goes, next_listed, none_left}
use Rattle.mt_verify.proofs.CopiedKinds.{copies_are_alike, still_there}
use Rattle.mt_verify.proofs.CopiedTrees.{copies_are_earlier, split_get}
use Rattle.mt_verify.proofs.Runs.{some_at}
use Rattle.mt_verify.proofs.WholeTrees.{all_are_maps}

empty_is_map : (kind : Kind) → IsMap kind []
empty_is_map kind = record { rise = tt; within = tt }

listings_more : (declared : List Declared) (gone : List GoneTree) (d : Declared) (g : GoneTree) → slice_get declared (length gone) ≡ Some d → listings_by declared (gone ++ g ∷ []) ≡ listings_by declared gone ++ listing_by d g ∷ []
listings_more [] gone d g at = absurd (cc)
listings_more (e ∷ declared) [] d g at = first declared ∙ ap (λ (x : Declared). listing_by x g ∷ []) (same_Some e d at)
  where
    first : (others : List Declared) → listing_by e g ∷ listings_by others [] ≡ listing_by e g ∷ []
    first [] = refl
    first (x ∷ others) = refl
listings_more (e ∷ declared) (x ∷ gone) d g at = ap (λ l. listing_by e x ∷ l) (listings_more declared gone d g at)

-- how a tree opens by more trees
opens_still : (told : List ToldLine) (gone : List GoneTree) (more : List GoneTree) (o : Opening) (g : GoneTree) → OpensGone told gone o g → OpensGone told (gone ++ more) o g
opens_still told gone more Empty g is = is
opens_still told gone more (CopyOf tree phase) g is = (is.0, still_there gone more tree is.0 is.1, is.2, is.3)

gone_still : (version rows : ℕ) (told : List ToldLine) (gone more : List GoneTree) (tree : ℕ) (d : Declared) (g : GoneTree) → IsGoneTree version rows told gone tree d g → IsGoneTree version rows told (gone ++ more) tree d g
gone_still version rows told gone more tree d g is = record { kind = is.kind; opening = opens_still told gone more d.opening g is.opening; has = is.has }

-- a tree opens as another one of its kind with its map does
opens_like : (told : List ToldLine) (gone : List GoneTree) (o : Opening) (f g : GoneTree) → g.kind ≡ f.kind → g.opening ≡ f.opening → OpensGone told gone o f → OpensGone told gone o g
opens_like told gone Empty f g kind opening is = opening ∙ is
opens_like told gone (CopyOf tree phase) f g kind opening is = (is.0, is.1, kind ∙ is.2, opening ∙ is.3)

-- before the first tree
pub starts : (log : Log) (rows : ℕ) (told : List ToldLine) (behind : List ℕ) → HaveGoneTo log rows told behind [] behind
starts log rows told behind = record {
  each = λ tree d g of at. absurd (cc);
  listed = ap (λ (l : List Listing). flat_map listing_text l ++ behind) (sym (nothing (trees_of log.lines)));
  maps = λ tree g at. absurd (cc);
}
  where
    nothing : (declared : List Declared) → listings_by declared [] ≡ []
    nothing [] = refl
    nothing (d ∷ declared) = refl

module _ (log : Log) (rows : ℕ) (told : List ToldLine) (behind : List ℕ) (gone : List GoneTree) (rest : List ℕ) (case : IsOfLog log rows told) (to : HaveGoneTo log rows told behind gone rest) where
  -- behind the last tree
  pub nothing_behind : length gone ≡ length (trees_of log.lines) → (rest ≡ [] → ⊥) → NoneIsTold log rows told behind
  nothing_behind all some t steps trees is = some (none_left log rows told behind gone rest to case.few_rows (copies_are_earlier log.lines case.readable) t steps trees is all)

  module _ (d : Declared) (at : slice_get (trees_of log.lines) (length gone) ≡ Some d) where
    pub has_source : (tree phase : ℕ) → d.opening ≡ CopyOf tree phase → tree < length gone
    has_source tree phase copy = copies_are_earlier log.lines case.readable (length gone) tree phase d at copy

    module _ (map : Contents) (opens : OpensAsMap told gone d map) where
      pub opened_kind : (d.opening ≡ Empty → map.kind ≡ d.tree.kind) → map.kind ≡ d.tree.kind
      opened_kind empty = by_opening d.opening refl opens
        where
          by_opening : (o : Opening) → d.opening ≡ o → OpensGone told gone o (just_opened map) → map.kind ≡ d.tree.kind
          by_opening Empty of is = empty of
          by_opening (CopyOf source phase) of is =
              let has = copies_are_alike log.lines case.readable (length gone) source phase d at of in
              is.2 ∙ ((to.each source has.tree is.0 has.is is.1).kind ∙ sym has.kind)

      pub opened_map : IsMap map.kind map.ranges
      opened_map = by_opening d.opening opens
        where
          by_opening : (o : Opening) → OpensGone told gone o (just_opened map) → IsMap map.kind map.ranges
          by_opening Empty is = subst (IsMap map.kind) (sym is) (empty_is_map map.kind)
          by_opening (CopyOf source phase) is =
              let g : GoneTree = is.0 in
              let k : ℕ = calls_of_phases_before told source phase in
              subst (λ (x : Kind × List Range). IsMap x.0 x.1) (λ i. (sym is.2 i, sym is.3 i)) (all_are_maps g.kind g.opening (take k g.noted) (to.maps source g is.1))

      module _ (kind : map.kind ≡ d.tree.kind) where
        pub not_gone : CannotGo log.version rows told (length gone) map.kind map.ranges → NoneIsTold log rows told behind
        not_gone cannot t steps trees is =
            next_goes log rows told behind gone rest to case.few_rows (copies_are_earlier log.lines case.readable) t steps trees is (length gone) d (just_opened map) at kind opens cannot

        module _ (g : GoneTree) (after : Contents) (goes : IsGoneFrom log.version rows told (length gone) map g after) where
          next_gone : IsGoneTree log.version rows told gone (length gone) d g
          next_gone = record { kind = goes.of_kind ∙ kind; opening = opens_like told gone d.opening (just_opened map) g goes.of_kind goes.opening opens; has = goes.gone }

          pub not_listed : ((more : List ℕ) → rest ≡ listing_text (record { name = d.tree.name; kind = d.tree.kind; ranges = after.ranges }) ++ more → ⊥) → NoneIsTold log rows told behind
          not_listed none t steps trees is =
              let earlier = copies_are_earlier log.lines case.readable in
              let h = some_at trees (length gone) (omega (arith, slice_get_within (trees_of log.lines) (length gone) d at, is.run.count)) in
              let last = ends_so log rows told behind gone rest to case.few_rows earlier t steps trees is (length gone) d g h.0 at h.1 next_gone in
              let listed = next_listed log rows told behind gone rest to case.few_rows earlier t steps trees is d h.0 after.ranges at h.1 (last ∙ sym goes.last.ranges) in
              none listed.0 listed.1

          pub goes_on : (left : List ℕ) → rest ≡ listing_text (record { name = d.tree.name; kind = d.tree.kind; ranges = after.ranges }) ++ left → HaveGoneTo log rows told behind (gone ++ g ∷ []) left
          goes_on left text = record {
            each = λ tree e x of is. elim (split_get gone g tree x is) [
              | inl old ↦ gone_still log.version rows told gone (g ∷ []) tree e x (to.each tree e x of old)
              | inr last ↦
                  let same : d ≡ e = same_Some d e (sym at ∙ (ap (slice_get (trees_of log.lines)) (sym last.0) ∙ of)) in
                  subst (λ (y : ℕ × (Declared × GoneTree)). IsGoneTree log.version rows told (gone ++ g ∷ []) y.0 y.1.0 y.1.1) (λ i. (sym last.0 i, (same i, sym last.1 i))) (gone_still log.version rows told gone (g ∷ []) (length gone) d g next_gone)
            ];
            listed =
                let front = flat_map listing_text (listings_by (trees_of log.lines) gone) in
                let listing : listing_text (record { name = d.tree.name; kind = d.tree.kind; ranges = after.ranges }) ≡ listing_text (listing_by d g) =
                ap (λ (m : List Range). listing_text (record { name = d.tree.name; kind = d.tree.kind; ranges = m })) goes.last.ranges in
                let one : flat_map listing_text (listing_by d g ∷ []) ≡ listing_text (listing_by d g) = append-nil (listing_text (listing_by d g)) in
                let all : flat_map listing_text (listings_by (trees_of log.lines) (gone ++ g ∷ [])) ≡ front ++ listing_text (listing_by d g) =
                ap (flat_map listing_text) (listings_more (trees_of log.lines) gone d g at) ∙ (flat_map-append listing_text (listings_by (trees_of log.lines) gone) (listing_by d g ∷ []) ∙ ap (λ l. front ++ l) one) in
                to.listed ∙ (ap (λ l. front ++ l) (text ∙ ap (λ l. l ++ left) listing) ∙ (sym (append_assoc front (listing_text (listing_by d g)) left) ∙ ap (λ l. l ++ left) (sym all)));
            maps = λ tree x is. elim (split_get gone g tree x is) [
              | inl old ↦ to.maps tree x old
              | inr last ↦ subst (λ (y : GoneTree). IsMap y.kind y.opening) (sym last.1) (subst (λ (y : Kind × List Range). IsMap y.0 y.1) (λ i. (sym goes.of_kind i, sym goes.opening i)) opened_map)
            ];
          }
