-- What a client and its disk say.
use Rattle.std.specs.Prelude.{◌≡◌, ℕ, List, [], ◌∷◌, ◌++◌, None, Result, Ok, Err, IfOk, IfErr}
use Rattle.std.proofs.Common.{inl, inr, sym, ◌∙◌, subst}
use Rattle.coda_disk.specs.Told.{Told}
use Rattle.coda_journal.specs.Mount.{NotMounted}
use Rattle.coda_journal.specs.Open.{Stands}
use Rattle.coda_journal.specs.declared.header.Header.{Header}
use Rattle.coda_journal.specs.declared.mounting.MountFault.{MountFault}
use Rattle.coda_journal.specs.declared.mounting.MountFault.TheVariants.{Foreign, DiskFault}
use Rattle.coda_journal.specs.declared.mounting.Unmounted.{Unmounted}
use Rattle.coda_plain.proofs.Lists.{follow_push}
use Rattle.coda_record.specs.Entries.{client_payload}
use Rattle.coda_record.specs.Form.{four}
use Rattle.coda_record.proofs.EntriesAgree.{client_payload_agrees}
use Rattle.coda_venus.specs.History.{Payload, payloads_of, MayFollow, IsHistory}
use Rattle.coda_venus.specs.Recovering.{Recovered, NotRecovered}
use Rattle.coda_venus.specs.Standing.{IsUp}
use Rattle.coda_venus.specs.declared.venus.Venus.{Venus}
use Rattle.coda_actors.specs.Clients.{client_form}
use Rattle.coda_actors.specs.Form.{Mounted, WhyForeign}
use Rattle.coda_actors.specs.Spelled.{at_rest_stands, same_history}

pub client_stands : {D : Type 0} (told : D → Told) (venus : Venus D) (header : Header) (history : List Payload) → IsUp told header venus history → Stands (told venus.journal.disk) header (payloads_of history) None
client_stands told venus header history up = at_rest_stands (told venus.journal.disk) header venus.journal.start venus.journal.used venus.journal.area (payloads_of history) up.journal

pub one_client_history : (header : Header) (a b : List Payload) → IsHistory header a → IsHistory header b → payloads_of a ≡ payloads_of b → a ≡ b
one_client_history header = same_history (client_payload four) (client_payload_agrees four) (MayFollow header) (λ past entry may. may.1) []

pub client_history_grows : (header : Header) (history : List Payload) (entry : Payload) → IsHistory header history → MayFollow header history entry → IsHistory header (history ++ entry ∷ [])
client_history_grows header history entry = follow_push (MayFollow header) history entry

foreign_at : (header : Header) (old new : Told) (why : MountFault) (at : ℕ) → old.may_leave old.seen → NotRecovered header old new why → why ≡ Foreign at → WhyForeign header old new at
foreign_at header old new why at seen n is = from (subst (NotRecovered header old new) is n)
  where
    from : NotRecovered header old new (Foreign at) → WhyForeign header old new at
    from m = elim m.why_not [
      | inl not ↦ ((λ c now. subst old.may_leave (sym (not.2 c now ∙ not.1)) seen), inl not.0)
      | inr misfit ↦ ((λ c now. subst old.may_leave (sym (misfit.1 c now)) misfit.0), inr (new.seen, misfit.0, misfit.2.reads.made, misfit.2.reads.same))
    ]

pub client_foreign : {T D : Type 0} (told : D → Told) (header : Header) (old : Told) (result : Result T (Unmounted D)) → old.may_leave old.seen → IfErr result (λ u. NotRecovered header old (told u.disk) u.why)
    → IfErr result (λ u. (at : ℕ) → u.why ≡ Foreign at → WhyForeign header old (told u.disk) at)
client_foreign told header old (Ok x) seen not = tt
client_foreign told header old (Err u) seen not = λ at is. foreign_at header old (told u.disk) u.why at seen not is

pub client_mounted : {D : Type 0} (told : D → Told) (header : Header) (disk : D) (result : Result (Venus D × ℕ) (Unmounted D)) → IfOk result (λ r. Recovered told header disk r.0 r.1)
    → IfOk result (λ r. Mounted (client_form told) header (told disk) r.0 r.1)
client_mounted told header disk (Ok r) is = record { history = is.history; up = is.up; was = is.was; counts = is.counts }
client_mounted told header disk (Err u) is = tt

pub client_not_mounted : {T D : Type 0} (told : D → Told) (header : Header) (old : Told) (result : Result T (Unmounted D)) → IfErr result (λ u. NotRecovered header old (told u.disk) u.why)
    → IfErr result (λ u. NotMounted header old (told u.disk) DiskFault)
client_not_mounted told header old (Ok x) is = tt
client_not_mounted told header old (Err u) is = record { honest = is.honest; leaves = is.leaves; now = is.now; why_not = tt }
