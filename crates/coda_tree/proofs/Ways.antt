-- Where a path leads, and where it stops.
use Rattle.std.proofs.Common.{◌≡◌, ℕ, ◌+◌, List, [], ◌∷◌, Option, Some, None, Result, Ok, Err, refl, sym, ap, ◌∙◌, arith}
use Rattle.std.specs.FinMap as map
use Rattle.coda_fid.specs.Name.{name_cmp}
use Rattle.coda_fid.specs.declared.fid.Fid.{Fid}
use Rattle.coda_tree.specs.declared.node.Node.{Node}
use Rattle.coda_tree.specs.declared.node.NodeKind.{NodeKind}
use Rattle.coda_tree.specs.declared.node.NodeKind.TheVariants.{File, Link, Dir}
use Rattle.coda_tree.specs.declared.volume.PathFault.{PathFault}
use Rattle.coda_tree.specs.declared.volume.PathFault.TheVariants.{NotFound, NotDir}
use Rattle.coda_tree.specs.Bindings.{Name}
use Rattle.coda_tree.specs.Volume.{Nodes, bindings, child_of, child, IsDir, IsDirNode}
use Rattle.coda_tree.specs.Lookup.{found_at, step_in, step_from, then_from, lookup_of, Leads, Reaches, Stops}

-- ---- one name

found_child : (o : Option Fid) (i : ℕ) (g : Fid) → found_at o i ≡ Ok g → o ≡ Some g
found_child None i g is = cc
found_child (Some f) i g is = cc

kind_child : (k : NodeKind) (n : Name) (i : ℕ) (g : Fid) → step_in k n i ≡ Ok g → map.get (bindings k) n ≡ Some g
kind_child (File content) n i g is = cc
kind_child (Link target) n i g is = cc
kind_child (Dir entries) n i g is = found_child (map.get entries n) i g is

step_child : (o : Option Node) (n : Name) (i : ℕ) (g : Fid) → step_from o n i ≡ Ok g → child_of o n ≡ Some g
step_child None n i g is = cc
step_child (Some node) n i g is = kind_child node.kind n i g is

kind_step : (k : NodeKind) (n : Name) (i : ℕ) (g : Fid) → map.get (bindings k) n ≡ Some g → step_in k n i ≡ Ok g
kind_step (File content) n i g is = let none : map.get (bindings (File content)) n ≡ None = map.get-empty name_cmp n in cc
kind_step (Link target) n i g is = let none : map.get (bindings (Link target)) n ≡ None = map.get-empty name_cmp n in cc
kind_step (Dir entries) n i g is = ap (λ o. found_at o i) is

child_step : (o : Option Node) (n : Name) (i : ℕ) (g : Fid) → child_of o n ≡ Some g → step_from o n i ≡ Ok g
child_step None n i g is = cc
child_step (Some node) n i g is = kind_step node.kind n i g is

-- why a name leads nowhere
abbrev KindStopped : NodeKind → Name → ℕ → PathFault → Type 0
KindStopped k n i (NotFound at) = (at ≡ i) × IsDir k × (map.get (bindings k) n ≡ None)
KindStopped k n i (NotDir at) = (at ≡ i) × (IsDir k → ⊥)

abbrev Stopped : Option Node → Name → ℕ → PathFault → Type 0
Stopped o n i (NotFound at) = (at ≡ i) × IsDirNode o × (child_of o n ≡ None)
Stopped o n i (NotDir at) = (at ≡ i) × (IsDirNode o → ⊥)

kind_stopped : (k : NodeKind) (n : Name) (i : ℕ) (why : PathFault) → step_in k n i ≡ Err why → KindStopped k n i why
kind_stopped (File content) n i (NotFound at) is = cc
kind_stopped (File content) n i (NotDir at) is = (cc, λ d. d)
kind_stopped (Link target) n i (NotFound at) is = cc
kind_stopped (Link target) n i (NotDir at) is = (cc, λ d. d)
kind_stopped (Dir entries) n i why is = by (map.get entries n) refl why is
  where
    by : (o : Option Fid) → map.get entries n ≡ o → (why : PathFault) → found_at o i ≡ Err why → KindStopped (Dir entries) n i why
    by None none (NotFound at) e = (cc, tt, none)
    by None none (NotDir at) e = cc
    by (Some f) some why e = cc

stopped : (o : Option Node) (n : Name) (i : ℕ) (why : PathFault) → step_from o n i ≡ Err why → Stopped o n i why
stopped None n i (NotFound at) is = cc
stopped None n i (NotDir at) is = (cc, λ d. d)
stopped (Some node) n i (NotFound at) is = kind_stopped node.kind n i (NotFound at) is
stopped (Some node) n i (NotDir at) is = kind_stopped node.kind n i (NotDir at) is

-- ---- all names

pub leads : (m : Nodes) (d : Fid) (i : ℕ) (names : List Name) (f : Fid) → lookup_of m d i names ≡ Ok f → Leads m d names f
leads m d i [] f is = cc
leads m d i (n ∷ ns) f is = by (step_from (map.get m d) n i) refl (λ g. leads m g (i + 1) ns f) is
  where
    by : (r : Result Fid PathFault) → step_from (map.get m d) n i ≡ r → ((g : Fid) → lookup_of m g (i + 1) ns ≡ Ok f → Leads m g ns f) → then_from r (λ g. lookup_of m g (i + 1) ns) ≡ Ok f → Leads m d (n ∷ ns) f
    by (Err e) s rest is = cc
    by (Ok g) s rest is = (g, step_child (map.get m d) n i g s, rest g is)

pub led : (m : Nodes) (d : Fid) (i : ℕ) (names : List Name) (f : Fid) → Leads m d names f → lookup_of m d i names ≡ Ok f
led m d i [] f l = ap (λ x. Ok x) (sym l)
led m d i (n ∷ ns) f l =
    ap (λ r. then_from r (λ g. lookup_of m g (i + 1) ns)) (child_step (map.get m d) n i l.0 l.1) ∙ led m l.0 (i + 1) ns f l.2

first_place : (at i : ℕ) → at ≡ i → at ≡ i + 0
first_place at i is = omega (arith, is)

stops_here : (m : Nodes) (d : Fid) (i : ℕ) (n : Name) (ns : List Name) (why : PathFault) → Stopped (map.get m d) n i why → Stops m d i (n ∷ ns) why
stops_here m d i n ns (NotFound at) s = (record { front = []; name = n; rest = ns; parts = refl; place = first_place at i s.0; at = d; leads = refl }, s.1, s.2)
stops_here m d i n ns (NotDir at) s = (record { front = []; name = n; rest = ns; parts = refl; place = first_place at i s.0; at = d; leads = refl }, s.1)

further : (m : Nodes) (d g : Fid) (i : ℕ) (n : Name) (ns : List Name) (at : ℕ) → child m d n ≡ Some g → Reaches m g (i + 1) ns at → Reaches m d i (n ∷ ns) at
further m d g i n ns at c way = record {
  front = n ∷ way.front;
  name = way.name;
  rest = way.rest;
  parts = ap (λ l. n ∷ l) way.parts;
  place = omega (arith, way.place);
  at = way.at;
  leads = (g, c, way.leads);
}

stops_further : (m : Nodes) (d g : Fid) (i : ℕ) (n : Name) (ns : List Name) (why : PathFault) → child m d n ≡ Some g → Stops m g (i + 1) ns why → Stops m d i (n ∷ ns) why
unfolding further
stops_further m d g i n ns (NotFound at) c s = (further m d g i n ns at c s.0, s.1, s.2)
stops_further m d g i n ns (NotDir at) c s = (further m d g i n ns at c s.0, s.1)

pub stops : (m : Nodes) (d : Fid) (i : ℕ) (names : List Name) (why : PathFault) → lookup_of m d i names ≡ Err why → Stops m d i names why
stops m d i [] why is = cc
stops m d i (n ∷ ns) why is = by (step_from (map.get m d) n i) refl (λ g. stops m g (i + 1) ns why) is
  where
    by : (r : Result Fid PathFault) → step_from (map.get m d) n i ≡ r → ((g : Fid) → lookup_of m g (i + 1) ns ≡ Err why → Stops m g (i + 1) ns why) → then_from r (λ g. lookup_of m g (i + 1) ns) ≡ Err why → Stops m d i (n ∷ ns) why
    by (Err e) s rest is = let same : e ≡ why = cc in stops_here m d i n ns why (stopped (map.get m d) n i why (s ∙ ap (λ x. Err x) same))
    by (Ok g) s rest is = stops_further m d g i n ns why (step_child (map.get m d) n i g s) (rest g is)
