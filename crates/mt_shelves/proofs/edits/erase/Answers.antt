use Rattle.mt_shelves.proofs.Prelude.{◌≡◌, ◌<◌, List, [], length, ap, sym, ◌∙◌, Range, holding, without, joined}
use Rattle.mt_shelves.proofs.ErasingThere.{end_held, shelf_held, shelf_without, within_there}
use Rattle.mt_shelves.proofs.edits.erase.Goals as goal

pub returns-then-at-len-clause-range : goal.returns-then-at-len-clause-range
returns-then-at-len-clause-range c =
    end_held c.deref.result.now c.args.shelves.now.items c.args.index c.place_below-at.result [] c.deref.ensures.value c.requires c.place_below-at.ensures.bound c.place_below-at.ensures.front c.place_below-at.ensures.reach (c.if-at-len.true ∙ (c.len.ensures ∙ c.args.shelves.now.ok.0))

pub returns-in_err-range-clause-range : goal.returns-in_err-range-clause-range
returns-in_err-range-clause-range c =
    let other : c.place_below-at.result ≡ length c.args.shelves.now.items → ⊥ = λ same. c.if-at-len.false (same ∙ (sym c.args.shelves.now.ok.0 ∙ sym c.len.ensures)) in
    let within : c.place_below-at.result < length c.args.shelves.now.items = within_there c.deref.result.now c.args.shelves.now.items c.args.index c.place_below-at.result c.index_mut.result.now c.deref.ensures.value c.requires c.place_below-at.ensures.bound c.place_below-at.ensures.front c.place_below-at.ensures.reach other in
    let held : c.erase.result ≡ holding (joined c.args.shelves.now.items) c.args.index = c.erase.ensures.range ∙ (ap (λ (m : List Range). holding m c.args.index) c.index_mut.ensures.value ∙ shelf_held c.deref.result.now c.args.shelves.now.items c.args.index c.place_below-at.result c.index_mut.result.now c.deref.ensures.value c.requires c.place_below-at.ensures.bound c.place_below-at.ensures.front c.place_below-at.ensures.reach within) in
    c.from_residual.ensures ∙ (sym c.in_err-range.was ∙ held)

pub returns-clause-range : goal.returns-clause-range
returns-clause-range c =
    let other : c.place_below-at.result ≡ length c.args.shelves.now.items → ⊥ = λ same. c.if-at-len.false (same ∙ (sym c.args.shelves.now.ok.0 ∙ sym c.len.ensures)) in
    let within : c.place_below-at.result < length c.args.shelves.now.items = within_there c.deref.result.now c.args.shelves.now.items c.args.index c.place_below-at.result c.index_mut.result.now c.deref.ensures.value c.requires c.place_below-at.ensures.bound c.place_below-at.ensures.front c.place_below-at.ensures.reach other in
    let held : c.erase.result ≡ holding (joined c.args.shelves.now.items) c.args.index = c.erase.ensures.range ∙ (ap (λ (m : List Range). holding m c.args.index) c.index_mut.ensures.value ∙ shelf_held c.deref.result.now c.args.shelves.now.items c.args.index c.place_below-at.result c.index_mut.result.now c.deref.ensures.value c.requires c.place_below-at.ensures.bound c.place_below-at.ensures.front c.place_below-at.ensures.reach within) in
    sym c.in_ok-range.was ∙ held

pub returns-clause-some : goal.returns-clause-some
returns-clause-some c =
    let other : c.place_below-at.result ≡ length c.args.shelves.now.items → ⊥ = λ same. c.if-at-len.false (same ∙ (sym c.args.shelves.now.ok.0 ∙ sym c.len.ensures)) in
    let within : c.place_below-at.result < length c.args.shelves.now.items = within_there c.deref.result.now c.args.shelves.now.items c.args.index c.place_below-at.result c.index_mut.result.now c.deref.ensures.value c.requires c.place_below-at.ensures.bound c.place_below-at.ensures.front c.place_below-at.ensures.reach other in
    c.tidy.ensures.joined ∙ shelf_without c.deref.result.now c.args.shelves.now.items c.args.index c.place_below-at.result c.index_mut.result.now c.deref.ensures.value c.requires c.place_below-at.ensures.bound c.place_below-at.ensures.front c.place_below-at.ensures.reach within c.erase.new.self (c.in_ok-range.ensures.some ∙ ap (λ (m : List Range). without m c.args.index) c.index_mut.ensures.value)
