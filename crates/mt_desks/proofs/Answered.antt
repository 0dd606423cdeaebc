-- Where no tree is worn, each line is answered.
use Rattle.mt_desks.proofs.Prelude.{List, [], ◌∷◌, inl, inr, Pass, Asked, Step, IsDone, AreDoneEach, SharedTree, IsSomeWorn, IsDoneUnless, AreAnsweredUnless}

done_where_not_worn : (worn : Type 0) (a : Asked) (steps : List Step) → (worn → ⊥) → IsDoneUnless worn a steps → IsDone a a.item steps
done_where_not_worn worn a steps not_worn (inl d) = d
done_where_not_worn worn a steps not_worn (inr (w, none)) = absurd (not_worn w)

answered_unless : (worn : Type 0) (asked : List Asked) (answers : List (List Step)) → (worn → ⊥) → AreAnsweredUnless worn asked answers → AreDoneEach asked answers
answered_unless worn [] [] not_worn h = tt
answered_unless worn [] (s ∷ answers) not_worn h = absurd h
answered_unless worn (a ∷ asked) [] not_worn h = absurd h
answered_unless worn (a ∷ asked) (s ∷ answers) not_worn h = (done_where_not_worn worn a s not_worn h.0, answered_unless worn asked answers not_worn h.1)

pub none_worn : (trees : List SharedTree) (passes : List Pass) (asked : List Asked) (answers : List (List Step)) → (IsSomeWorn trees passes → ⊥) → AreAnsweredUnless (IsSomeWorn trees passes) asked answers → AreDoneEach asked answers
none_worn trees passes asked answers not_worn h = answered_unless (IsSomeWorn trees passes) asked answers not_worn h
