use Rattle.std.proofs.Common.{◌≡◌, ◌+◌, ◌≤◌, ◌++◌, length, map, take, vec_len, vec_capacity}
use Rattle.groups.specs.declared.skip_id.SkipId.TheVariants.{Part}
use Rattle.layer_results.specs.Wants.{wants_among}
use Rattle.resp.specs.Content.{content}
use Rattle.layer_results.proofs.starving.push_wants.Given as goal

-- the names of those so far were put, in the room that there was
abbrev pub invariant-loop-place : goal.invariant-loop-place
invariant-loop-place l = record {
  put : l.names.items ≡ l.fn.names.items ++ map (Part l.id) (wants_among 1 (map content (take l.place l.replies)));
  len : vec_len l.names ≡ vec_len l.fn.names + length (wants_among 1 (map content (take l.place l.replies)));
  room : vec_capacity l.fn.names ≤ vec_capacity l.names;
}
