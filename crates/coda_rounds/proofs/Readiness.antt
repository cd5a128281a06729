-- A client that works stays ready.
use Rattle.std.proofs.Common.{◌≡◌, ◌≢◌, ℕ, ◌<◌, Bool, true, ◌||◌, [], ◌∷◌, Option, Some, None, Ok, refl, sym, ap, ◌∙◌, inl, inr}
use Rattle.std.proofs.lemmas.Bool.{or_left, or_right}
use Rattle.std.specs.FinMap as map
use Rattle.coda_fid.specs.Fid.{fid_cmp, same_fid}
use Rattle.coda_fid.specs.declared.fid.Fid.{Fid}
use Rattle.coda_fid.specs.declared.op.Op.{Op}
use Rattle.coda_fid.specs.declared.op.Op.TheVariants.{Create, Mkdir, Symlink, Store, Setattr, Remove, Rmdir, Rename}
use Rattle.coda_cancel.specs.Dropping.{mentioning}
use Rattle.coda_cancel.proofs.Keys.{fid_same}
use Rattle.coda_histories.specs.Forests.{IsForest, ParentsAreDirs, KeepsKinds, KeepsKindsIn}
use Rattle.coda_histories.proofs.Directories.{put_was}
use Rattle.coda_histories.proofs.Entries.{entered}
use Rattle.coda_histories.proofs.Forests.{without_was}
use Rattle.coda_histories.proofs.Ways.{left_was}
use Rattle.coda_record.specs.declared.entry.ClientEntry.{ClientEntry}
use Rattle.coda_record.specs.declared.entry.ClientEntry.TheVariants as entry
use Rattle.coda_venus.specs.Held.{Parents, Held, stays, taken_out, held_without, parents_after}
use Rattle.coda_venus.specs.History.{Payload, MayEnter, MayEnterAll}
use Rattle.coda_venus.specs.State.{ClientState, client_after, client_after_all}
use Rattle.coda_venus.specs.Serving.{ServingClient}
use Rattle.coda_venus.specs.Rounds.{RoundStep, Sources, entries_of_step, serving_after}
use Rattle.coda_tree.specs.declared.node.Node.{Node}
use Rattle.coda_rounds.specs.Entering.{IsReady, new_serving_client}
use Rattle.coda_rounds.specs.Places.{AreInDirs, KeepsToVolume, ArePlaced, AreOfTheirVolumes}
use Rattle.coda_rounds.specs.Readiness.{AreWithinVolumes, IsOfOneVolume, AllOfOneVolume, IsAtWork, MayStep, ClientsStayReady}
use Rattle.coda_rounds.proofs.Later.{later_objects_stay_free}
use Rattle.coda_rounds.proofs.NewClient.{in_order, no_parent}
use Rattle.coda_rounds.proofs.Orders.{forest_of, steps_leave_order}
use Rattle.coda_rounds.proofs.Places.{objects_stand_where_made}
use Rattle.coda_rounds.proofs.Uncopied.{uncopied_on, uncopied_accepted}
use Rattle.coda_rounds.proofs.Volumes.{logs_keep_to_their_volumes}

-- ---- parents stay within their volume

-- a fid is among those that begin with it
listed_first : (f : Fid) (rest : Bool) → (same_fid f f || rest) ≡ true
listed_first f rest = or_left (same_fid f f) rest (fid_same f f refl)

put_volume : (held : Held) (fid dir : Fid) → fid.volume ≡ dir.volume → AreWithinVolumes held → (f p : Fid)
    → map.get (map.insert held.parents fid dir) f ≡ Some p → f.volume ≡ p.volume
put_volume held fid dir same within f p at = elim (put_was held.parents fid dir f p at) [
  | inl old ↦ within f p old
  | inr new ↦ ap (λ (x : Fid). x.volume) new.1 ∙ same ∙ sym (ap (λ (x : Fid). x.volume) new.0)
]

-- an operation of one volume puts no object under a directory of another
parent_volume : (held : Held) (volume : ℕ) (op : Op) → ((f : Fid) → mentioning f op ≡ true → f.volume ≡ volume)
    → AreWithinVolumes held → (f p : Fid) → map.get (parents_after held.parents op) f ≡ Some p → f.volume ≡ p.volume
parent_volume held volume (Create dir name fid mode owner) own =
    put_volume held fid dir (own fid (or_right (same_fid dir fid) _ (listed_first fid _)) ∙ sym (own dir (listed_first dir _)))
parent_volume held volume (Mkdir dir name fid mode owner) own =
    put_volume held fid dir (own fid (or_right (same_fid dir fid) _ (listed_first fid _)) ∙ sym (own dir (listed_first dir _)))
parent_volume held volume (Symlink dir name fid target mode owner) own =
    put_volume held fid dir (own fid (or_right (same_fid dir fid) _ (listed_first fid _)) ∙ sym (own dir (listed_first dir _)))
parent_volume held volume (Store fid pre content) own = λ within f p at. within f p at
parent_volume held volume (Setattr fid pre attrs) own = λ within f p at. within f p at
parent_volume held volume (Remove dir name fid pre) own = λ within f p at. within f p at
parent_volume held volume (Rmdir dir name fid pre) own = λ within f p at. within f p at
parent_volume held volume (Rename from_dir from to_dir to fid over) own =
    put_volume held fid to_dir
    (own fid (or_right (same_fid from_dir fid) _ (or_right (same_fid to_dir fid) _ (listed_first fid _)))
    ∙ sym (own to_dir (or_right (same_fid from_dir to_dir) _ (listed_first to_dir _))))

within_without : (o : Option Fid) (parents : Parents) (held : Held) → AreWithinVolumes held
    → AreWithinVolumes (held_without o parents held)
within_without None parents held within = within
within_without (Some gone) parents held within =
    λ f p at. within f p (left_was held.parents (stays parents gone) f p at).1

within_entered : (c : ClientState) (next : ClientEntry) → IsOfOneVolume next → AreWithinVolumes c.held
    → AreWithinVolumes (client_after c next).held
within_entered c (entry.Op volume rec) own within =
    within_without (taken_out rec.op) c.held.parents _ (parent_volume c.held volume rec.op own within)
within_entered c (entry.Freeze volume number home last) own within = within
within_entered c (entry.Settled volume number verdict) own within = within
within_entered c (entry.Giveup volume) own within = within
within_entered c (entry.Fetched fid None node) own within = within
within_entered c (entry.Fetched fid (Some dir) node) own within = put_volume c.held fid dir own within
within_entered c (entry.Dropped fid) own within = λ f p at. within f p (without_was c.held.parents fid f p at).1
within_entered c (entry.Hoard change) own within = within
within_entered c (entry.Snapshot snapshot) own within = within

of_one_volume : (next : ClientEntry) → IsOfOneVolume next → KeepsToVolume next
of_one_volume (entry.Op volume rec) own = own
of_one_volume (entry.Freeze volume number home last) own = tt
of_one_volume (entry.Settled volume number verdict) own = tt
of_one_volume (entry.Giveup volume) own = tt
of_one_volume (entry.Fetched fid parent node) own = tt
of_one_volume (entry.Dropped fid) own = tt
of_one_volume (entry.Hoard change) own = tt
of_one_volume (entry.Snapshot snapshot) own = tt

-- ---- entries

-- what is kept of a client by itself
record Keeps (c : ClientState) : Type 0 where
  forest : IsForest c.held
  under : ParentsAreDirs c.held
  within : AreWithinVolumes c.held
  placed : ArePlaced c
  logs : AreOfTheirVolumes c

keeps_entered : (c : ClientState) (next : ClientEntry) → MayEnter c next → KeepsKinds c next → IsOfOneVolume next
    → Keeps c → Keeps (client_after c next)
keeps_entered c next may kinds own k =
    let grown = entered c next may kinds (k.forest, k.under) in
    let one = of_one_volume next own in
    let dirs : AreInDirs c.held = record { dirs = k.under; within = k.within } in record {
      forest = grown.0;
      under = grown.1;
      within = within_entered c next own k.within;
      placed = objects_stand_where_made.then_too c next k.placed dirs one may;
      logs = logs_keep_to_their_volumes.then_too c next k.logs one;
    }

keeps_all : (c : ClientState) (entries : Payload) → MayEnterAll c entries → KeepsKindsIn c entries
    → AllOfOneVolume entries → Keeps c → Keeps (client_after_all c entries)
keeps_all c [] may kinds own k = k
keeps_all c (next ∷ entries) may kinds own k =
    keeps_all (client_after c next) entries may.1 kinds.1 own.1 (keeps_entered c next may.0 kinds.0 own.0 k)

-- ---- a client

is_ready : (sources : Sources) (s : ServingClient) (volume : ℕ) → IsAtWork sources s → IsReady sources s volume
is_ready sources s volume w =
    let next = later_objects_stay_free.next sources s volume (w.later volume) in record {
      order = w.order.0;
      stand = objects_stand_where_made.stand s volume w.placed;
      within = logs_keep_to_their_volumes.within s volume w.logs;
      free = next.0;
      nowhere = next.1;
    }

works_first : (sources : Sources) (number blocks : ℕ)
    → ((fid : Fid) → fid.vnode ≡ number → 0 < fid.uniq → (given : Node × ℕ) → sources fid ≢ Ok given)
    → IsAtWork sources (new_serving_client number blocks)
works_first sources number blocks nowhere = record {
  order = (in_order number blocks, λ f p at. absurd (no_parent f p at));
  within = λ f p at. absurd (no_parent f p at);
  placed = objects_stand_where_made.first number blocks;
  logs = logs_keep_to_their_volumes.first number blocks;
  later = λ volume. record {
    here = λ f later. map.get-empty fid_cmp f;
    there = λ f later given. nowhere f later.1 later.2 given;
  };
  uncopied = λ volume f later. refl;
}

works_on : (sources : Sources) (s : ServingClient) (step : RoundStep) → IsAtWork sources s → MayStep sources s step
    → IsAtWork sources (serving_after s step)
works_on sources s step w m =
    let k = keeps_all s.client (entries_of_step step) m.may m.kinds m.volumes (record {
      forest = forest_of s w.order.0;
      under = w.order.1;
      within = w.within;
      placed = w.placed;
      logs = w.logs;
    }) in record {
      order = steps_leave_order s step w.order m.may m.kinds;
      within = k.within;
      placed = k.placed;
      logs = k.logs;
      later = λ volume. later_objects_stay_free.stepped sources s step volume (w.later volume) m.may m.comes;
      uncopied = uncopied_on sources s step w m.comes;
    }

pub clients_stay_ready : ClientsStayReady
clients_stay_ready = record {
  ready = is_ready;
  first = works_first;
  stepped = works_on;
  over_others = λ sources others s w none. record {
    order = w.order;
    within = w.within;
    placed = w.placed;
    logs = w.logs;
    later = λ volume. record { here = (w.later volume).here; there = none volume };
    uncopied = w.uncopied;
  };
  uncopied = uncopied_accepted;
}
