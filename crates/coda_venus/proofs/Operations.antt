-- An operation that the journal has may follow exactly where acceptance makes it of some ask, and it is the next of its log.
use Rattle.std.proofs.Common.{◌≡◌, ℕ, ◌+◌, ◌++◌, true, arith, Ok, refl, sym, subst}
use Rattle.std.specs.BTreeMap as tree
use Rattle.std.specs.Ordering.{nat_cmp}
use Rattle.coda_fid.specs.declared.op.Record.{Record}
use Rattle.coda_cancel.specs.Cancel.{add}
use Rattle.coda_cancel.specs.Weights.{fits}
use Rattle.coda_venus.specs.Accepting.{Sight, accept}
use Rattle.coda_venus.specs.Code.{IsClient, IsNextOf, MayPerform, volume_in, sight}
use Rattle.coda_venus.specs.History.{MayOperate}
use Rattle.coda_venus.specs.Operating.{MayBegin}
use Rattle.coda_venus.specs.Reaching.{IsAccepted}
use Rattle.coda_venus.specs.State.{ClientVolume, ClientState}
use Rattle.coda_venus.specs.declared.client.Client.{Client}
use Rattle.coda_venus.proofs.Performed.{volume_is, sight_is, may_begin, may_perform}

module _ (c : ClientState) (code : Client) (volume : ℕ) (rec : Record) (is : IsClient c code) where
  v : volume_in (tree.get nat_cmp code.logs volume) ≡ c.volumes volume
  v = volume_is (c.volumes volume) (tree.get nat_cmp code.logs volume) (is.logs volume)

  pub follows : IsAccepted (sight code volume) volume rec.op → IsNextOf (volume_in (tree.get nat_cmp code.logs volume)).log rec.time rec.op rec → MayOperate c volume rec
  follows accepted next =
      let few = next.few in
      let number = next.next in
      record {
        ask = accepted.ask;
        small = accepted.small;
        accepted = subst (λ (s : Sight). accept s volume accepted.ask ≡ Ok rec.op) (sight_is c code volume is) accepted.accepted;
        next = subst (λ (w : ClientVolume). rec.number ≡ w.log.last + 1) v number;
        few = omega (arith, few, number);
        room = subst (λ (w : ClientVolume). fits 4096 16777216 (w.log.chunk ++ add w.log.records rec) ≡ true) v next.room;
      }

  pub is_accepted : MayOperate c volume rec → IsAccepted (sight code volume) volume rec.op
  is_accepted may = record { ask = may.ask; small = may.small; accepted = subst (λ (s : Sight). accept s volume may.ask ≡ Ok rec.op) (sym (sight_is c code volume is)) may.accepted }

  pub is_next : MayOperate c volume rec → IsNextOf (volume_in (tree.get nat_cmp code.logs volume)).log rec.time rec.op rec
  is_next may =
      let number = subst (λ (w : ClientVolume). rec.number ≡ w.log.last + 1) (sym v) may.next in
      let few = may.few in
      record {
        what = refl;
        when = refl;
        next = number;
        few = omega (arith, few, number);
        room = subst (λ (w : ClientVolume). fits 4096 16777216 (w.log.chunk ++ add w.log.records rec) ≡ true) (sym v) may.room;
      }

-- ---- what it relies on

pub begins : (code : Client) (volume : ℕ) (rec : Record) → IsAccepted (sight code volume) volume rec.op → MayBegin code.cache.nodes rec.op
begins code volume rec accepted = may_begin code volume accepted.ask rec.op accepted.accepted

pub performs : (code : Client) (volume : ℕ) (rec : Record) → IsAccepted (sight code volume) volume rec.op → IsNextOf (volume_in (tree.get nat_cmp code.logs volume)).log rec.time rec.op rec
    → MayPerform (volume_in (tree.get nat_cmp code.logs volume)) rec
performs code volume rec accepted next = may_perform code volume rec.time accepted.ask rec.op rec accepted.accepted next
