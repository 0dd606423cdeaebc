-- A judgment on a text that tells of a whole log, and on one that stops.
use Rattle.mt_judge.proofs.Prelude.{◌≡◌, ℕ, List, inl, inr, Log, ToldLine, IsToldBy, IsFound, IsJudged, KeepsOrderIn, StopsAt, TellsStop, tally_of, Judgment}

pub judged_whole : (log : Log) (rows : ℕ) (text rest : List ℕ) (told : List ToldLine) (j : Judgment) → IsToldBy log text told rest → IsFound log rows text j.found → KeepsOrderIn told j.found → j.tally ≡ tally_of told → IsJudged log rows text j
judged_whole log rows text rest told j by found order tally = record { found = found; tally = (told, rest, tally, inl (by, order)) }

pub judged_part : (log : Log) (rows : ℕ) (text rest : List ℕ) (told : List ToldLine) (count : ℕ) (j : Judgment) → StopsAt log text count told rest → IsFound log rows text j.found → TellsStop told j.found → j.tally ≡ tally_of told → IsJudged log rows text j
judged_part log rows text rest told count j stops found form tally = record { found = found; tally = (told, rest, tally, inr (count, stops, form)) }
