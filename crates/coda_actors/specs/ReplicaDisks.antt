-- What a replica and its disk say.
use Rattle.std.specs.Prelude.{◌≡◌, ℕ, List, [], ◌∷◌, ◌++◌, None, Result, Ok, Err, IfErr}
use Rattle.std.proofs.Common.{inl, inr, sym, ◌∙◌, subst}
use Rattle.coda_disk.specs.Told.{Told}
use Rattle.coda_journal.specs.Open.{Stands}
use Rattle.coda_journal.specs.declared.header.Header.{Header}
use Rattle.coda_journal.specs.declared.mounting.MountFault.{MountFault}
use Rattle.coda_journal.specs.declared.mounting.MountFault.TheVariants.{Foreign}
use Rattle.coda_journal.specs.declared.mounting.Unmounted.{Unmounted}
use Rattle.coda_plain.proofs.Lists.{follow_push}
use Rattle.coda_record.specs.Entries.{replica_entry}
use Rattle.coda_record.specs.Form.{four}
use Rattle.coda_record.specs.declared.entry.ReplicaEntry.{ReplicaEntry}
use Rattle.coda_record.proofs.EntriesAgree.{replica_entry_agrees}
use Rattle.coda_replica.specs.History.{payloads_of, MayFollow, IsHistory}
use Rattle.coda_replica.specs.Recovering.{NotRecovered}
use Rattle.coda_replica.specs.Standing.{IsUp}
use Rattle.coda_replica.specs.declared.replica.Replica.{Replica}
use Rattle.coda_actors.specs.Form.{WhyForeign}
use Rattle.coda_actors.specs.Spelled.{at_rest_stands, same_history}

pub replica_stands : {D : Type 0} (told : D → Told) (replica : Replica D) (header : Header) (history : List ReplicaEntry) → IsUp told header replica history → Stands (told replica.journal.disk) header (payloads_of history) None
replica_stands told replica header history up = at_rest_stands (told replica.journal.disk) header replica.journal.start replica.journal.used replica.journal.area (payloads_of history) up.journal

pub one_replica_history : (header : Header) (a b : List ReplicaEntry) → IsHistory header a → IsHistory header b → payloads_of a ≡ payloads_of b → a ≡ b
one_replica_history header = same_history (replica_entry four) (replica_entry_agrees four) (MayFollow header) (λ past entry may. may.1) []

pub replica_history_grows : (header : Header) (history : List ReplicaEntry) (entry : ReplicaEntry) → IsHistory header history → MayFollow header history entry → IsHistory header (history ++ entry ∷ [])
replica_history_grows header history entry = follow_push (MayFollow header) history entry

foreign_at : (header : Header) (old new : Told) (why : MountFault) (at : ℕ) → old.may_leave old.seen → NotRecovered header old new why → why ≡ Foreign at → WhyForeign header old new at
foreign_at header old new why at seen n is = from (subst (NotRecovered header old new) is n)
  where
    from : NotRecovered header old new (Foreign at) → WhyForeign header old new at
    from m = elim m.why_not [
      | inl not ↦ ((λ c now. subst old.may_leave (sym (not.2 c now ∙ not.1)) seen), inl not.0)
      | inr misfit ↦ ((λ c now. subst old.may_leave (sym (misfit.1 c now)) misfit.0), inr (new.seen, misfit.0, misfit.2.reads.made, misfit.2.reads.same))
    ]

pub replica_foreign : {T D : Type 0} (told : D → Told) (header : Header) (old : Told) (result : Result T (Unmounted D)) → old.may_leave old.seen → IfErr result (λ u. NotRecovered header old (told u.disk) u.why)
    → IfErr result (λ u. (at : ℕ) → u.why ≡ Foreign at → WhyForeign header old (told u.disk) at)
replica_foreign told header old (Ok x) seen not = tt
replica_foreign told header old (Err u) seen not = λ at is. foreign_at header old (told u.disk) u.why at seen not is
