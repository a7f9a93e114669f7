use Rattle.std.proofs.Common.{subst}
use Rattle.placement.specs.Layout.{Layout}
use Rattle.shards.specs.Joined.{HasOwnKeys}
use Rattle.system.proofs.Lasting.{seen}
use Rattle.system.specs.Laws.{ShowsSome, OfItsWorlds, OthersKeepStill, CollectedOnce, CollectsItsOwn}
use Rattle.system.specs.Reads.{table_of, maps_of}
use Rattle.system.specs.System.{SystemView}
use Rattle.world.specs.World.{World}
use Rattle.world_laws.specs.Order.{OfEveryWorld, FinalsAgree, FinalsDiffer, ConnectionsRise, GroupsAreOfTasks, PacketsAreAddressed}
use Rattle.world_laws.specs.Order.{LogsAreAddressed, ReadyInWords, LinedUpInWords, EndedOnce, EndedAsSubmitted, TouchingInStampOrder}
use Rattle.system.proofs.system.System.order.Goals as goal

-- what holds of every world holds of those that a system shows
of_its : (P : Layout → World → Type 0) (s : SystemView) → OfEveryWorld P → OfItsWorlds P s
of_its P s law h w at' = law (table_of s) h w at'.leads

pub returns : goal.returns
returns c =
    let s = seen c.self.inside in
    let law = c.order_of_requests.ensures in
    let told = c.collecting_of_outcomes.ensures in record {
      shows = subst ShowsSome c.self.view_is c.self.invariant.shows;
      own_keys = subst (λ (v : SystemView). HasOwnKeys (table_of v) (maps_of v)) c.self.view_is c.table.ensures.is_store.own;
      finals_agree = subst (OfItsWorlds FinalsAgree) c.self.view_is (of_its FinalsAgree s law.groups_agree);
      finals_differ = subst (OfItsWorlds FinalsDiffer) c.self.view_is (of_its FinalsDiffer s law.final_stamps_differ);
      connections_rise = subst (OfItsWorlds ConnectionsRise) c.self.view_is (of_its ConnectionsRise s law.stamps_of_connection_rise);
      touching = subst (OfItsWorlds TouchingInStampOrder) c.self.view_is (of_its TouchingInStampOrder s law.touching_end_in_stamp_order);
      ended_once = subst (OfItsWorlds EndedOnce) c.self.view_is (of_its EndedOnce s law.ends_once);
      ended_as_submitted = subst (OfItsWorlds EndedAsSubmitted) c.self.view_is (of_its EndedAsSubmitted s law.ends_as_submitted);
      groups = subst (OfItsWorlds GroupsAreOfTasks) c.self.view_is (of_its GroupsAreOfTasks s law.asked_of_its_groups);
      packets = subst (OfItsWorlds PacketsAreAddressed) c.self.view_is (of_its PacketsAreAddressed s law.packets_go_to_addressed);
      delivered = subst (OfItsWorlds LogsAreAddressed) c.self.view_is (of_its LogsAreAddressed s law.deliveries_are_addressed);
      ready = subst (OfItsWorlds ReadyInWords) c.self.view_is (of_its ReadyInWords s law.ready_is_first);
      lined_up = subst (OfItsWorlds LinedUpInWords) c.self.view_is (of_its LinedUpInWords s law.lined_up_is_behind_alone);
      others = subst OthersKeepStill c.self.view_is
          (λ h w at' step effect new made. law.others_keep_still (table_of s) w new step effect made);
      collected_once = subst CollectedOnce c.self.view_is
          (λ h w at' effects made. told.collected_once (table_of s) h effects w made);
      collects_own = subst CollectsItsOwn c.self.view_is
          (λ h w at' effects made conn o new step. told.collects_its_own (table_of s) h effects w new made conn o step);
    }
