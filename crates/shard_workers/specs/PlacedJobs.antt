-- A request that is run on a map, or over the shards of its groups, and what comes of it.
use Rattle.std.specs.Prelude.{◌≡◌, true, false, List, [], ◌∷◌, Option, Some, None, option_map}
use Rattle.std.specs.FinMap.{empty}
use Rattle.groups.specs.Skips.{names_whole, parts_of}
use Rattle.groups.specs.declared.skip_id.SkipId.{SkipId}
use Rattle.keyspace.specs.Map.{Map}
use Rattle.placement.specs.Layout.{Layout, IsTable}
use Rattle.resp.specs.Content.{Content, content}
use Rattle.resp.specs.declared.answered.Answered.{Answered}
use Rattle.shards.specs.Joined.{Span, numbers, union, SpanHasOwnKeys}
use Rattle.tasks.specs.Tasks.{Task, task_groups, deed_effect, deed_of, task_takes_memory, MembersStarveRightly}
use Rattle.shard_workers.specs.declared.placed_job.PlacedJob.{PlacedJob}
use Rattle.shard_workers.specs.declared.placed_job.JobRan.{JobRan}

-- what a request is answered; nothing where it starved
abbrev pub outcome : Option Answered → Option Content
outcome answered = option_map (λ a. content a.reply) answered

-- what a task left of a map, and what it answered, which tells what of it was done; where it starved there is no reply, and the map
-- is as it was
abbrev pub MapRan : Task → Map → Option Content → Map → Type 0
MapRan task before None after = after ≡ before
MapRan task before (Some reply) after = (after, reply) ≡ deed_effect (deed_of task reply) before

-- The request was run on a map, or it starved and the map is as it was. One that is to be skipped starves; another one
-- only where its task, on what the map has, takes memory as a whole. Of its members those starve that are to be skipped, and
-- another one only where it takes memory on what it meets.
pub record HasRunOn (skip : List SkipId) (t : PlacedJob) (before : Map) (r : JobRan) (after : Map) : Type 0 where
  pub place : r.place ≡ t.place
  pub id : r.id ≡ t.job.id
  pub stamp : r.stamp ≡ t.job.stamp
  pub groups : r.groups ≡ t.job.groups
  pub words : r.words ≡ t.job.asked.words
  pub ran : MapRan t.job.asked.batch before (outcome r.reply) after
  pub skipped : names_whole skip t.job.id ≡ true → outcome r.reply ≡ None
  pub starved : names_whole skip t.job.id ≡ false → outcome r.reply ≡ None → task_takes_memory t.job.asked.batch before
  pub members : (reply : Content) → outcome r.reply ≡ Some reply
      → MembersStarveRightly (parts_of skip t.job.id) t.job.asked.batch before reply

-- the map of the one shard that is there
abbrev pub first_map : Span → Map
first_map [] = empty
first_map (s ∷ ss) = s.1

-- these are the shards of the groups that the request addresses, each with only keys that the table places there
pub record IsReadyFor (table : Layout) (t : PlacedJob) (span : Span) : Type 0 where
  pub is_table : IsTable table
  pub groups : t.job.groups ≡ task_groups table t.job.asked.batch
  pub numbers : numbers span ≡ t.job.groups
  pub own : SpanHasOwnKeys table span

-- the request was run on what its shards hold together; they have the numbers that they had, and only their own keys
pub record HasRunOver (table : Layout) (skip : List SkipId) (t : PlacedJob) (before : Span) (r : JobRan) (after : Span) : Type 0 where
  pub numbers : numbers after ≡ numbers before
  pub own : SpanHasOwnKeys table after
  pub on : HasRunOn skip t (union before) r (union after)
