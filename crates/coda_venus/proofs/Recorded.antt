-- The record that an ask becomes over what may be served.
use Rattle.std.proofs.Common.{◌≡◌, ℕ, ◌<◌, ◌≤◌, ◌⊎◌, Bool, true, false, None, Result, Ok, Err, inl, inr, sym, ap, ◌∙◌, subst, arith}
use Rattle.std.proofs.Math.Bool.{Bool-set}
use Rattle.std.proofs.Math.Logic.{∥∥₁_elim}
use Rattle.std.proofs.lemmas.Bool.Decides.{nat_tests}
use Rattle.std.specs.Prelude.{nat_le}
use Rattle.std.specs.BTreeMap as tree
use Rattle.std.specs.BTreeMap.{BTreeMap}
use Rattle.std.specs.Ordering.{nat_cmp}
use Rattle.coda_fid.specs.declared.op.Op.{Op}
use Rattle.coda_fid.specs.declared.op.Record.{Record}
use Rattle.coda_record.specs.Form.{four, eight}
use Rattle.coda_record.specs.Parts.{u64}
use Rattle.coda_record.specs.Spelling.{HasSpelling}
use Rattle.coda_record.specs.Table as table
use Rattle.coda_spelling.specs.Spelled.{IsSpelled, AreSpelled}
use Rattle.coda_spelling.proofs.SpelledParts.{within, below}
use Rattle.coda_venus.specs.Accepting.{Sight, accept}
use Rattle.coda_venus.specs.Ask.{Asked, too_big, IsAskSpelled}
use Rattle.coda_plain.specs.Deeds.{created_by}
use Rattle.coda_venus.specs.Caching.{serves, served_nodes, served_sight}
use Rattle.coda_venus.specs.Code.{has_room, is_full, volume_in, MayPerform}
use Rattle.coda_venus.specs.Operating.{MayBegin}
use Rattle.coda_venus.specs.Logs.{AreSendable}
use Rattle.coda_venus.specs.Keeping.{record_of, record_for_unless, record_for}
use Rattle.coda_venus.specs.Looking.{then_find, OrMemory}
use Rattle.coda_venus.specs.State.{ClientVolume}
use Rattle.coda_venus.specs.declared.client.Client.{Client}
use Rattle.coda_venus.specs.declared.refused.Refused.{Refused}
use Rattle.coda_venus.specs.declared.refused.Refused.TheVariants.{Memory}
use Rattle.coda_venus.specs.declared.volume_log.VolumeLog.{VolumeLog}
use Rattle.coda_venus.proofs.Accepted.{Relies, accepted_relies, relies_few}
use Rattle.coda_venus.proofs.Performed.{creations_are, relies_begin}
use Rattle.coda_venus.proofs.SpelledAsks.{accepted_spelled}
use Rattle.coda_venus.proofs.SpelledHeld.{retained_spelled}

err_is : (x y : Refused) → (let err : Refused → Result Op Refused = λ z. Err z in err x ≡ err y) → x ≡ y
err_is x y h = cc

module _ (s : Sight) (v : ClientVolume) (time volume : ℕ) (ask : Asked) (small : too_big ask ≡ None) where
  by_acceptance : record_for s v time volume ask ≡ then_find (accept s volume ask) (λ op. Ok (record_of v time op))
  by_acceptance = ap (λ o. record_for_unless o s v time volume ask) small

  -- an operation that is accepted becomes a record
  pub recorded_ok : (op : Op) (rec : Record) → accept s volume ask ≡ Ok op → rec ≡ record_of v time op
      → OrMemory (Ok rec) (record_for s v time volume ask)
  recorded_ok op rec accepted is =
      inr ((λ i. let r : Result Record Refused = Ok (is i) in r)
      ∙ sym (by_acceptance ∙ ap (λ r. then_find r (λ o. Ok (record_of v time o))) accepted))

  -- acceptance refuses
  pub recorded_err : (why : Refused) → OrMemory (Err why) (accept s volume ask)
      → OrMemory (let r : Result Record Refused = Err why in r) (record_for s v time volume ask)
  recorded_err why (inl memory) =
      inl (ap (λ (e : Refused). let r : Result Record Refused = Err e in r) (err_is why Memory memory))
  recorded_err why (inr refused) =
      inr (sym (by_acceptance ∙ ap (λ r. then_find r (λ o. Ok (record_of v time o))) (sym refused)))

-- the record can be spelled, where its number is in its range
pub recorded_spelled : (emulating : Bool) (code : Client) (volume time : ℕ) (ask : Asked) (op : Op) (rec : Record)
    → volume < 4294967296 → code.number < 256 → time < 18446744073709551616 → AreSpelled code.cache.nodes
    → IsAskSpelled ask → too_big ask ≡ None → accept (served_sight emulating code volume) volume ask ≡ Ok op
    → 1 ≤ rec.number → rec.time ≡ time → rec.op ≡ op → rec.number ≤ 4294967295 → IsSpelled rec
recorded_spelled emulating code volume time ask op rec low number at nodes asked small h first when what most = record {
  number = within 1 4294967295 eight rec.number first most (omega (arith, most));
  time = subst (HasSpelling u64) (sym when) (below eight time at);
  op = subst (HasSpelling (table.op four)) (sym what)
      (accepted_spelled (served_sight emulating code volume) volume low (omega (arith, number))
      (retained_spelled code.cache.nodes (serves emulating code) nodes) ask op asked small h);
}

-- and it may be performed, where there is room for it
module _ (emulating : Bool) (code : Client) (volume time : ℕ) (ask : Asked) (op : Op) (rec : Record)
    (accepted : accept (served_sight emulating code volume) volume ask ≡ Ok op) where
  abbrev v : ClientVolume
  v = volume_in (tree.get nat_cmp code.logs volume)

  relies : Relies (served_sight emulating code volume) volume op
  relies = accepted_relies (served_sight emulating code volume) volume ask op accepted

  pub recorded_begins : rec.op ≡ op → MayBegin (served_nodes emulating code) rec.op
  recorded_begins what =
      subst (MayBegin (served_nodes emulating code)) (sym what)
      (relies_begin (served_sight emulating code volume) volume op relies)

  few : is_full v ≡ false → v.log.last < 4294967295
  few e = grind (arith, nat_tests, e)

  pub recorded_performs : (v.log.last ≤ 4294967295 → rec ≡ record_of v time op) → has_room v rec ≡ true → is_full v
      ≡ false
      → MayPerform v rec
  recorded_performs made room left =
      let less = few left in
      let is = made (omega (arith, less)) in
      let creations = relies_few (served_sight emulating code volume) volume op relies in
      record {
        next = ap (λ (r : Record). r.number) is;
        few = less;
        room = room;
        creations = subst
            (λ (p : Op). (v.creations < 4294967295) ⊎ (created_by p ≡ 0)) (sym (ap (λ (r : Record). r.op) is))
            (subst (λ n. (n < 4294967295)
            ⊎ (created_by op ≡ 0)) (creations_are (tree.get nat_cmp code.logs volume)) creations);
      }

-- ---- how many operations there were

at_most : (n : ℕ) → nat_le n 4294967295 ≡ true → n ≤ 4294967295
at_most n e = grind (arith, nat_tests, e)

shows : (n : ℕ) → n ≤ 4294967295 → nat_le n 4294967295 ≡ true
shows n h = grind (arith, nat_tests, h)

pub few_operations : (logs : BTreeMap ℕ VolumeLog) (volume : ℕ) → ∥ AreSendable logs ∥₁
    → (volume_in (tree.get nat_cmp logs volume)).log.last ≤ 4294967295
few_operations logs volume sendable =
    at_most _ (∥∥₁_elim sendable (Bool-set _ _) (λ all. shows _ (all volume).kept.few))
