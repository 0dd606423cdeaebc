use Rattle.mt_rows.proofs.Prelude.{◌≡◌, ◌+◌, ◌++◌, ℕ, List, length, ap, ◌∙◌, subst, length-append, arith, with_items_is, Listed, with_zeros, ArePut}
use Rattle.mt_rows.proofs.ZeroWords.{zeros_long, zeros_fit, listed_long, appended_listed, overwritten_listed}
use Rattle.mt_rows.proofs.words.Words.put.Goals as goal

pub invariant_of-self : goal.invariant_of-self
invariant_of-self c =
    let fit = c.self.invariant.fit in
    let long = listed_long c.self.inside.len c.self.inside.written.items c.args.self.now.items fit (ap (λ (x : Listed). x.items) c.self.view_is) in
    let asked = c.requires in
    let before = zeros_long c.args.at c.self.inside.written.items (omega arith) in
    let size = ap length c.append.ensures.items ∙ length-append c.write_zeros.new.words.items c.args.words.now in
    let zeros = ap length c.write_zeros.ensures.items in
    record {
      fit = omega arith;
      room = let room = c.self.invariant.room in let grown = c.write_zeros.ensures.capacity in let more = c.append.ensures.capacity in omega arith;
    }

pub invariant_of-self-else-len-at : goal.invariant_of-self-else-len-at
invariant_of-self-else-len-at c =
    let fit = c.self.invariant.fit in
    let long = listed_long c.self.inside.len c.self.inside.written.items c.args.self.now.items fit (ap (λ (x : Listed). x.items) c.self.view_is) in
    let asked = c.requires in
    let few = zeros_fit (c.args.at + length c.args.words.now) c.self.inside.len c.self.inside.written.items (omega arith) fit in
    let kept = ap length (with_items_is c.write_zeros-else-len-at.new.words c.overwrite.new.list (c.overwrite.auto.list ∙ c.as_mut_slice.ensures.len)) in
    let same = c.overwrite.auto.list ∙ ap length (c.as_mut_slice.ensures.value ∙ c.write_zeros-else-len-at.ensures.items) in
    record {
      fit = omega arith;
      room = let room = c.self.invariant.room in let grown = c.write_zeros-else-len-at.ensures.capacity in omega arith;
    }

pub returns-then-len-at : goal.returns-then-len-at
returns-then-len-at c =
    let words = c.args.words.now in
    let items : c.append.new.list.items ≡ with_zeros c.args.at c.self.inside.written.items ++ words = c.append.ensures.items ∙ ap (λ (l : List ℕ). l ++ words) c.write_zeros.ensures.items in
    appended_listed c.self.inside.len c.args.at c.self.inside.written.items words c.append.new.list.items c.args.self.now.items (ap (λ (x : Listed). x.items) c.self.view_is) c.self.invariant.fit (omega arith) c.requires items

pub returns-else-len-at : goal.returns-else-len-at
returns-else-len-at c =
    let words = c.args.words.now in
    let over : ArePut c.args.at words (with_zeros (c.args.at + length words) c.self.inside.written.items) c.overwrite.new.list = subst (λ (l : List ℕ). ArePut c.args.at words l c.overwrite.new.list) (c.as_mut_slice.ensures.value ∙ c.write_zeros-else-len-at.ensures.items) c.overwrite.ensures in
    let items = with_items_is c.write_zeros-else-len-at.new.words c.overwrite.new.list (c.overwrite.auto.list ∙ c.as_mut_slice.ensures.len) in
    overwritten_listed c.self.inside.len c.args.at c.self.inside.written.items c.overwrite.new.list words _ c.args.self.now.items (ap (λ (x : Listed). x.items) c.self.view_is) c.self.invariant.fit c.requires over items
