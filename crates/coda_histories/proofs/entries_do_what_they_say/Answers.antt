use Rattle.std.proofs.Common.{◌≡◌, refl, subst, inl, inr}
use Rattle.std.specs.Prelude.{IsSome}
use Rattle.coda_fid.proofs.Fids.{fids_total, exact_fids}
use Rattle.coda_fid.specs.declared.fid.Fid.{Fid}
use Rattle.coda_record.specs.declared.entry.ClientEntry.{ClientEntry}
use Rattle.coda_record.specs.declared.entry.ClientEntry.TheVariants.{Op, Freeze, Settled, Giveup, Fetched, Dropped, Hoard, Snapshot}
use Rattle.coda_tree.proofs.Order.{fid_cases, get_here, get_else, gone_here, gone_else}
use Rattle.coda_venus.specs.History.{IsDirty, MayEnter}
use Rattle.coda_venus.specs.State.{ClientState, client_after}
use Rattle.coda_histories.specs.Laws.{cached, IsNoOperation}
use Rattle.coda_histories.proofs.entries_do_what_they_say.Goals as goal

pending_stays : (c : ClientState) (entry : ClientEntry) (fid : Fid) → MayEnter c entry → IsNoOperation entry → IsSome (cached c fid) → IsDirty c fid → cached (client_after c entry) fid ≡ cached c fid
pending_stays c (Op volume rec) fid may other there dirty = absurd other
pending_stays c (Freeze volume number home last) fid may other there dirty = refl
pending_stays c (Settled volume number verdict) fid may other there dirty = refl
pending_stays c (Giveup volume) fid may other there dirty = refl
pending_stays c (Fetched at parent node) fid may other there dirty = elim (fid_cases fid at) [
  | inl same ↦ absurd (may.0 (subst (λ (f : Fid). IsSome (cached c f)) same there, subst (IsDirty c) same dirty))
  | inr off ↦ get_else fids_total exact_fids c.held.nodes at node fid off
]
pending_stays c (Dropped at) fid may other there dirty = elim (fid_cases fid at) [
  | inl same ↦ absurd (may.1 (subst (IsDirty c) same dirty))
  | inr off ↦ gone_else fids_total exact_fids c.held.nodes at fid off
]
pending_stays c (Hoard change) fid may other there dirty = refl
pending_stays c (Snapshot snapshot) fid may other there dirty = refl

pub returns : goal.returns
returns c = record {
  fetched = λ s fid parent node. get_here fids_total s.held.nodes fid node;
  fetched_alone = λ s fid parent node other off. get_else fids_total exact_fids s.held.nodes fid node other off;
  dropped = λ s fid. gone_here fids_total s.held.nodes fid;
  dropped_alone = λ s fid other off. gone_else fids_total exact_fids s.held.nodes fid other off;
  pending_stays = pending_stays;
}
