use Rattle.mt_log.proofs.Prelude.{◌≡◌, ◌++◌, take, flat_map, listing_text}
use Rattle.mt_log.proofs.rendering.push_listings.Given as goal

abbrev pub invariant-loop-listing : goal.invariant-loop-listing
invariant-loop-listing l = l.text.items ≡ l.fn.text.items ++ flat_map listing_text (take l.listing-index l.listings)
