-- A question about a member returns the value that the model has for it.
use Rattle.std.proofs.Common.{◌≡◌, ℕ, ◌<◌, ◌++◌, List, Result, Ok, Err, OnOk, Option, Some, None, cond, Bool, refl, subst, ◌∙◌, ap}
use Rattle.std.specs.declared.alloc.AllocError.{AllocError}
use Rattle.std.proofs.lemmas.Bool.{lt-ltb}
use Rattle.mencius_base.specs.Limits.{instance_count}
use Rattle.mencius_base.specs.Members.{IsMember, Membership}
use Rattle.mencius_base.specs.declared.message.Message.{Message}
use Rattle.mencius_server.specs.declared.glance.Glance.{Glance}
use Rattle.mencius_trace.specs.Effects.{counts, glance, instance_of}
use Rattle.mencius_base.specs.declared.event.Event.TheVariants.{Execute}
use Rattle.mencius_base.specs.declared.message.Value.{Value}
use Rattle.mencius_model.specs.Trace.{Trace}
use Rattle.mencius_model.specs.Instance.{learned_value}
use Rattle.mencius_model.specs.Server.{done}
use Rattle.mencius_cluster.specs.Answers.{if_member, of_member}
use Rattle.mencius_trace.specs.declared.fact.Fact.{Fact}
use Rattle.mencius_trace.specs.Before.{execution_in}

pub of_member_is : {A : Type 0} (m : Membership) (p : ℕ) (o : Option A) → IsMember m p → of_member m p o ≡ o
of_member_is m p o h = ap (λ (a : Bool). cond a o None) (lt-ltb p m.count h)

pub if_member_is : {A : Type 0} (m : Membership) (p : ℕ) (x y : A) → IsMember m p → Some y ≡ if_member m p x → y ≡ x
if_member_is m p x y h e = let so = e ∙ of_member_is m p (Some x) h in cc

pub execution_in_is : (m : Membership) (w : Trace) (p i : ℕ) (x : Value) → IsMember m p
    → Some i ≡ if_member m p (done w p) → Some x ≡ of_member m p (learned_value w p i)
    → Some (i, x) ≡ execution_in w (Execute p)
execution_in_is m w p i x h e same =
    let at : i ≡ done w p = if_member_is m p (done w p) i h e in
    let value : Some x ≡ learned_value w p i = same ∙ of_member_is m p (learned_value w p i) h in
    rw (← at, ← value) refl

-- for a member, the count is the one that its glance gives
pub counted_by : (m n : Membership) (w : Trace) (p i j : ℕ) (x : Message) (g : Glance)
    (result : Result (Unit {0}) AllocError) (old new : List Fact) → i ≡ instance_of x → n ≡ m
    → (i < instance_count → Some g ≡ if_member m p (glance m w p i))
    → OnOk result (new ≡ old ++ counts n p g x)
    → OnOk result (IsMember m p → instance_of x < instance_count
    → new ≡ old ++ counts m p (glance m w p (instance_of x)) x)
counted_by m n w p i j x g (Ok _) old new at same known h = λ member small.
    let here : g ≡ glance m w p (instance_of x) =
    if_member_is m p _ _ member
    (subst (λ i. i < instance_count → Some g ≡ if_member m p (glance m w p i)) at known small) in
    h ∙ ap (λ (y : Membership). old ++ counts y p g x) same ∙ ap (λ y. old ++ counts m p y x) here
counted_by m n w p i j x g (Err e) old new at same known h = tt
