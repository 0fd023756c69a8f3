-- What becomes of clap's answer.
use Rattle.std.proofs.Common.{◌≡◌, ◌≢◌, ⊎_elim, [], Ok, Err, true, refl, subst, sym}
use Rattle.std.specs.Prelude.{IfErr, IsErrAnd, MatchResult, Result}
use Rattle.clap.specs.Kinds.{HasKind, IsAmong, Kinds}
use Rattle.clap.specs.Words.{is_simple, is_simple_and_free, kind_of}
use Rattle.clap.specs.declared.Error.{Error}
use Rattle.clap.specs.declared.error.ErrorKind.TheVariants.{OutOfMemory}
use Rattle.clap.proofs.OnLiterals.{clap_on_literals}
use Rattle.jdf_words.specs.Calls.{Tells, TellsOf}
use Rattle.jdf_words.specs.Commands.{jdf}
use Rattle.jdf_words.specs.declared.call_fault.CallFault.{CallFault}
use Rattle.jdf_words.specs.declared.call_fault.CallFault.TheVariants.{Clap, Memory}
use Rattle.jdf_words.specs.declared.invocation.Invocation.{Invocation}

-- clap tells all of the program
pub is_simple_jdf : is_simple jdf ≡ true
unfolding jdf clap_on_literals
is_simple_jdf = refl

pub is_free_jdf : is_simple_and_free jdf ≡ true
unfolding jdf clap_on_literals
is_free_jdf = refl

-- a fault of clap's keeps its kind
pub told : (e : Error) (fault : CallFault) (kinds : Kinds) → TellsOf e fault → HasKind kinds e → Tells kinds fault
told e Memory kinds tells has = tt
told e (Clap x) kinds tells has =
    let enough : kind_of e ≢ OutOfMemory = λ none. cc (tells.0 none) in
    let same : x ≡ e = cc (tells.1 enough) in
    subst (λ (y : Error). IsAmong (kind_of y) kinds × (kind_of y ≢ OutOfMemory)) (sym same)
    (⊎_elim (λ none. absurd (enough none)) (λ among. among) has, enough)

-- what holds of an error of clap's holds of the fault that tells of it
pub refused : (e : Error) (answer : Result Invocation CallFault) (kinds : Kinds) → IsErrAnd answer (TellsOf e) → HasKind kinds e
    → MatchResult answer (λ _. kinds ≡ []) (Tells kinds)
refused e (Ok words) kinds tells has = absurd tells
refused e (Err fault) kinds tells has = told e fault kinds tells has

pub only_memory : (e : Error) (answer : Result Invocation CallFault) (P : Type 0) → IsErrAnd answer (TellsOf e) → (P → kind_of e ≡ OutOfMemory)
    → IfErr answer (λ fault. P → fault ≡ Memory)
only_memory e (Ok words) P tells passes = tt
only_memory e (Err fault) P tells passes = λ p. tells.0 (passes p)
