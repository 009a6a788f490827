-- `into_loose` makes the loose box again.
use Rattle.std.proofs.Common.{◌≡◌, ◌≢◌, List, [], ◌∷◌, ◌++◌, refl, sym, subst}
use mir.Val.{Val, vptr}
use base.Logic.{SProp, ent, emp, id⊢, fst∗, never}
use prog.Wp.{WpFn}
use types.Logic.{sem}
use types.Kit.{‵, raw, ◌⊛◌, ◌$◌, ◌∵◌, !, qed, by, move, keep, split, fsplit, fjoin, suffices, use0, use1, rewrite}
use types.Run.{stop, fld, of_opd, no_more, and_then, returns, enter}
use types.ByLocal.{alloc_all, pass_all, free_all, look_at, get, get_in, sets}
use types.Part.{agg, sub, whole}
use contract.Monad.{fact, fact_i}
use contract.Running.{tables}
use denote.Exit.{yes}
use denote.RattleType.{RattleType, owns}
use denote.Signature.{types_at, plain}
use denote.RawPtr.{Ptr, block_ptr, null_ptr, in_a_block}
use denote.Memory.{lone}
use denote.Steps.{nothing, heard}
use denote.Triple.Entry.{alive}
use denote.Triple.Walked.{Stays, stay_dropped, walk_of}
use mir.Raw.{raw as bare}
use Rattle.core.proofs.alloc.Calls.{Goes-blank, handle_tells}
use Rattle.std.specs.Prelude.{Option, Some, None}
use Rattle.std.specs.contracts.alloc.Global as heap
use Rattle.std.proofs.alloc.Global.TheLaws as heap_laws
use Rattle.std.specs.contracts.impls.GlobalAllocator.TheImpl.{ghosts}
use Rattle.std.proofs.raw_atomic.Walks.{proved_at, leaves}
use Rattle.mencius_exports.specs.Holdings.{held_owns, may_free}
use Rattle.mencius_exports.specs.declared.log_judge.LogJudge.{LogJudge}
use Rattle.mencius_exports.specs.contracts.log_judge.LogJudge.{the_row as judging_row}
use Rattle.mencius_exports.specs.contracts.held.Held as held
use Rattle.mencius_exports.proofs.LoosePointers.{both, al, Loose, loose_good, loose_in, one_ptr, held_out, value_of}
use Rattle.std_alloc.specs.Box.Ownership.{box_owns}
use Rattle.mencius_exports.specs.contracts.held.Held.into_loose.{ended, clauses}
use Rattle.mencius_exports.specs.contracts.held.Held.into_loose.Key.{name as #self}
use Rattle.mencius_exports.proofs.held.Held.into_loose.Statement.{statement}
use Rattle.mencius_exports.proofs.held.Held.into_loose.Code as code

abbrev Into : RattleType
Into = Loose judging_row heap.the_row heap_laws.the_row_laws ghosts

pub into_loose_spec : {M : Type 1} → statement M
into_loose_spec 𝓤 𝓛 𝓜 𝓡 wired =
    let H = 𝓛.H in let 𝓣 = tables 𝓤 H 𝓜 𝓡 𝓡.env in let c = clauses 𝓛 𝓜.mem 𝓡.returns in let fn = code.function in
    let hs : Stays ended.signature.params ended.kept = (stay_dropped (plain (λ _. held.the_row)) yes, (stay_dropped (plain (λ _. heap.the_row)) yes, tt)) in
    proved_at 𝓛 ended hs c 𝓜 𝓡 (Goes-blank 𝓛 0 (plain (λ _. held.the_row)) yes (λ κs x f. tt), (Goes-blank 𝓛 0 (plain (λ _. heap.the_row)) yes (λ κs x f. tt), tt)) #self fn (code.unfolded 𝓤 H 𝓜 𝓡 wired) (λ z are.
    let d = z.0.3.0 in let a = z.0.3.1.0 in let Post : Val → SProp 𝓤 = (walk_of 𝓛 ended hs c).post z in let Run : List Val → List Val → SProp 𝓤 = λ us ws. WpFn 𝓤 H 𝓣.C 𝓣.Λ fn (us ++ (ws ++ [])) Post in
    let none : Option LogJudge = None in
    qed 𝓛 ((raw (alive 𝓛 ended.signature z.0.0 z.0.1) ⊛ ‵ (owns (types_at ended.signature.params z.0.0) z.0.3 z.0.4)) ∷ raw (fact 𝓤 (d.value ≢ none)) ∷ []) ∵
    move ! (1 ∷ []) $ heard ! (d.value ≢ none) (λ is_some. let x = (value_of d.value is_some).0 in let is = (value_of d.value is_some).1 in let told : Type 0 = d.value ≡ Some x in split ! $ move ! (1 ∷ []) $ fsplit ! $ held_out ! d z.0.4.0 (λ ws.
    rewrite ! 0 (λ (o : Option LogJudge). ‵ (held_owns judging_row d.at o)) is refl $
    use1 𝓛 (‵ (box_owns may_free judging_row d.at x)) (id⊢ 𝓤 _) $
    in_a_block ! d.at (λ p. box_owns may_free judging_row p x) (fst∗ 𝓤 (never 𝓤) (sem 𝓛 (may_free (bare (lone judging_row.mir)) null_ptr))) (λ b o e.
    move ! (1 ∷ []) $ fsplit ! $ handle_tells (al judging_row heap.the_row heap_laws.the_row_laws ghosts) ! a z.0.4.1.0 (λ h ea fits.
    let first : z.0.4.0 ≡ one_ptr (block_ptr b o) ∷ [] = subst (λ (p : Ptr). z.0.4.0 ≡ one_ptr p ∷ []) e ws in
    let u : Val = one_ptr (block_ptr b o) in let typed = loose_good judging_row heap.the_row heap_laws.the_row_laws ghosts b o h fits in
    let out : Val = both (vptr b o) h in let made : Into.Denot = record { at = block_ptr b o; alloc = a; value = x } in
    keep ! (2 ∷ 0 ∷ 3 ∷ []) $
    suffices ! (Run (u ∷ []) (h ∷ [])) (subst (λ (us : List Val). ent 𝓤 (Run (u ∷ []) (h ∷ [])) (Run us z.0.4.1.0)) (sym first)
    (subst (λ (vs : List Val). ent 𝓤 (Run (u ∷ []) (h ∷ [])) (Run (u ∷ []) vs)) (sym ea) (id⊢ 𝓤 (Run (u ∷ []) (h ∷ []))))) $
    enter ! 𝓣.C 𝓣.Λ fn (u ∷ h ∷ []) Post $ alloc_all ! (λ l. pass_all ! refl ((tt, (tt, tt)), (fits, tt)) $
    sets ! (of_opd ! (get_in ! (fld ! refl (stop !)) (sub ! 0 refl (whole !)))) refl (tt, tt) $
    sets ! (of_opd ! (get ! refl)) refl (tt, tt) $
    sets ! (agg ! (and_then ! (get ! refl) (and_then ! (get ! refl) (no_more !)))) refl typed $
    returns ! (look_at ! 0 refl) $ free_all ! refl $
    use1 𝓛 (‵ (box_owns (ghosts.dealloc_token a) judging_row (block_ptr b o) x)) (id⊢ 𝓤 _) $
    loose_in judging_row heap.the_row heap_laws.the_row_laws ghosts ! b o h a x $
    use0 𝓛 (raw (fact 𝓤 told)) (fact_i 𝓤 told (emp 𝓤) is) $ nothing ! $ nothing ! $ fjoin ! $ nothing ! $ fjoin ! $
    keep ! (3 ∷ 0 ∷ 2 ∷ 1 ∷ []) $ by ! (leaves 𝓛 ended hs c z out made (tt, (tt, tt)) (tt, (tt, tt)))))))))
