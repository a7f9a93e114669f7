-- Room for what comes of requests is room for what came of them.
use Rattle.std.proofs.Common.{◌≡◌, ℕ, ◌≤◌, List, [], ◌∷◌, length, map, vec_capacity, refl, sym, ap, ◌∙◌, subst}
use Rattle.std.specs.List.{AllZip}
use Rattle.back.specs.Rooms.{words_of, HasRoomFor, FitsEnded}
use Rattle.back.specs.declared.room.ResultsRoom.{ResultsRoom}
use Rattle.layer_planner.specs.declared.job.Job.{Job}
use Rattle.shard_exec.specs.Layers.{IsOf}
use Rattle.shard_exec.specs.declared.done.Ended.{Ended}
use Rattle.shard_workers.proofs.Zips.{zip_length}

same_words : (js : List Job) (es : List Ended) → AllZip IsOf js es → map (λ (e : Ended). e.words) es ≡ words_of js
same_words [] [] told = refl
same_words (j ∷ js) (e ∷ es) told =
    ap (λ w. w ∷ map (λ (x : Ended). x.words) es) told.0.2 ∙ ap (λ l. j.asked.words ∷ l) (same_words js es told.1)
same_words js es told = absurd told

pub count_ended : (js layer : List Job) (es : List Ended) (n : ℕ) → js ≡ layer → AllZip IsOf layer es → length js ≤ n → length es ≤ n
count_ended js layer es n same told fits =
    subst (λ k. k ≤ n) (ap (λ (l : List Job). length l) same ∙ sym (zip_length IsOf layer es told)) fits

pub fits_ended : (js layer : List Job) (es : List Ended) (room : ResultsRoom) → js ≡ layer → AllZip IsOf layer es → HasRoomFor js room
    → FitsEnded es room
fits_ended js layer es room same told fits = record {
  words = fits.words ∙ ap words_of same ∙ sym (same_words layer es told);
  no_rows = fits.no_rows;
  rows = count_ended js layer es (vec_capacity room.rows) same told fits.rows;
}
