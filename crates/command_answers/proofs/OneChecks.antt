-- A file has one answer of `check`: its one certificate, or the one reason and row by which it is refused.
use Rattle.std.proofs.Common.{◌≡◌, ℕ, List, [], ◌++◌, Option, Some, inl, inr, sym, ap, ◌∙◌, subst}
use Rattle.comp_graph.specs.Games.{PebbleGame}
use Rattle.comp_graph.specs.Graphs.{GraphParts}
use Rattle.cert_checker.specs.Refusals.{IsRefusal, number_of_reason}
use Rattle.cert_checker.proofs.Checked.{refused_is_no_table}
use Rattle.cert_checker.proofs.OneRefusal.{refusal_is_one}
use Rattle.kernel_ast.specs.KernelParts.{KernelParts}
use Rattle.potential_cert.specs.GameTables.{IsTableOf}
use Rattle.potential_cert.specs.Table.{TableParts}
use Rattle.potential_cert.proofs.OneSpelling.{spelling_is_one}
use Rattle.command_words.specs.declared.commands.Checking.{Checking}
use Rattle.command_answers.specs.declared.status.Status.{Status}
use Rattle.command_answers.specs.Accepted.{IsAccepted}
use Rattle.command_answers.specs.CheckAnswers.{Checks, IsCertificate, IsCertified, IsRefused, IsRefusedFile, IsTableFile, accepted_text, broken, no_table, refused_text}
use Rattle.command_answers.specs.PlayedGames.{played_on}
use Rattle.desk_io.specs.Known.{ToldFile}
use Rattle.command_answers.proofs.Accepting.{accepted_once}
use Rattle.command_answers.proofs.ToldBytes.{told_bytes}

-- two answers are one: they have one status, one text and one table
abbrev pub AreOne : Status → Status → List ℕ → List ℕ → Option (List ℕ) → Option (List ℕ) → Type 0
AreOne s t p q a b = (s ≡ t) × (p ≡ q) × (a ≡ b)

-- bytes spell one table
pub one_table : (bytes : List ℕ) (t u : TableParts) → IsTableFile bytes t → IsTableFile bytes u → t ≡ u
one_table bytes t u a b = (spelling_is_one t u [] [] a.spelled.fits b.spelled.fits (ap (λ xs. xs ++ []) (sym a.spelled.bytes_are ∙ b.spelled.bytes_are))).0

pub one_certificate : (g : PebbleGame) (bytes : List ℕ) (t u : TableParts) → IsCertificate g bytes t → IsCertificate g bytes u → t ≡ u
one_certificate g bytes t u a b = one_table bytes t u a.file b.file

-- a table file of the game is not refused
pub certified_or_not : {X : Type 0} (g : PebbleGame) (bytes : List ℕ) (t : TableParts) (reason row : ℕ) → IsCertificate g bytes t → IsRefused g bytes reason row → X
certified_or_not g bytes t reason row is (no_table none reason_is row_is) = absurd (none t is.file)
certified_or_not g bytes t reason row is (broken u why file breaks reason_is) =
    absurd (refused_is_no_table g u why row breaks (subst (IsTableOf g) (one_table bytes t u is.file file) is.of_game))

-- a file is refused for one reason and by one row
pub one_refusal : (g : PebbleGame) (bytes : List ℕ) (a b j k : ℕ) → IsRefused g bytes a j → IsRefused g bytes b k → (a ≡ b) × (j ≡ k)
one_refusal g bytes a b j k (no_table none a_is j_is) (no_table other b_is k_is) = (a_is ∙ sym b_is, j_is ∙ sym k_is)
one_refusal g bytes a b j k (no_table none a_is j_is) (broken u why file breaks b_is) = absurd (none u file)
one_refusal g bytes a b j k (broken t why file breaks a_is) (no_table none b_is k_is) = absurd (none t file)
one_refusal g bytes a b j k (broken t why file breaks a_is) (broken u other held refuses b_is) =
    let same = refusal_is_one g u why other j k (subst (λ x. IsRefusal g x why j) (one_table bytes t u file held) breaks) refuses in
    (a_is ∙ ap number_of_reason same.0 ∙ sym b_is, same.1)

-- the game and the bytes of two answers to one text and one file are the same
pub moved : (P : PebbleGame → List ℕ → Type 0) (asked : Checking) (text : List ℕ) (k j : KernelParts) (g h : GraphParts) (bytes held : List ℕ) → IsAccepted text k g → IsAccepted text j h → bytes ≡ held
    → P (played_on g asked.slots asked.weights) bytes → P (played_on h asked.slots asked.weights) held
moved P asked text k j g h bytes held a b same holds =
    subst (λ x. P (played_on h asked.slots asked.weights) x) same (subst (λ x. P (played_on x asked.slots asked.weights) bytes) (accepted_once text k j g h a b).1 holds)

-- a file has one certificate, whose bound is printed
pub one_bound : (asked : Checking) (text : List ℕ) (file : ToldFile) (held : Option (List ℕ)) (s t : Status) (p q : List ℕ) (a b : Option (List ℕ))
    → file ≡ Some held → IsCertified asked text file s p a → IsCertified asked text file t q b → AreOne s t p q a b
one_bound asked text file held s t p q a b told h k =
    let here = moved (λ g bytes. IsCertificate g bytes h.certificate) asked text h.kernel k.kernel h.graph k.graph h.bytes k.bytes h.accepted k.accepted (told_bytes file held h.bytes k.bytes told h.held k.held) h.certifies in
    let same : h.certificate ≡ k.certificate = one_certificate (played_on k.graph asked.slots asked.weights) k.bytes h.certificate k.certificate here k.certifies in
    (h.ends ∙ sym k.ends, h.line ∙ ap (λ (c : TableParts). accepted_text c.bound) same ∙ sym k.line, h.none ∙ sym k.none)

-- or is refused for one reason, which is printed
pub one_reason : (asked : Checking) (text : List ℕ) (file : ToldFile) (held : Option (List ℕ)) (s t : Status) (p q : List ℕ) (a b : Option (List ℕ))
    → file ≡ Some held → IsRefusedFile asked text file s p a → IsRefusedFile asked text file t q b → AreOne s t p q a b
one_reason asked text file held s t p q a b told h k =
    let here = moved (λ g bytes. IsRefused g bytes h.reason h.row) asked text h.kernel k.kernel h.graph k.graph h.bytes k.bytes h.accepted k.accepted (told_bytes file held h.bytes k.bytes told h.held k.held) h.refused in
    let same = one_refusal (played_on k.graph asked.slots asked.weights) k.bytes h.reason k.reason h.row k.row here k.refused in
    let line : refused_text h.reason h.row ≡ refused_text k.reason k.row = λ i. refused_text (same.0 i) (same.1 i) in
    (h.ends ∙ sym k.ends, h.line ∙ line ∙ sym k.line, h.none ∙ sym k.none)

-- so two answers of `check` to one text and one file are one
pub one_check : (asked : Checking) (text : List ℕ) (file : ToldFile) (held : Option (List ℕ)) (s t : Status) (p q : List ℕ) (a b : Option (List ℕ))
    → file ≡ Some held → Checks asked text file s p a → Checks asked text file t q b → AreOne s t p q a b
one_check asked text file held s t p q a b told (inl h) (inl k) = one_bound asked text file held s t p q a b told h k
one_check asked text file held s t p q a b told (inl h) (inr k) =
    certified_or_not (played_on k.graph asked.slots asked.weights) k.bytes h.certificate k.reason k.row
    (moved (λ g bytes. IsCertificate g bytes h.certificate) asked text h.kernel k.kernel h.graph k.graph h.bytes k.bytes h.accepted k.accepted (told_bytes file held h.bytes k.bytes told h.held k.held) h.certifies)
    k.refused
one_check asked text file held s t p q a b told (inr h) (inl k) =
    certified_or_not (played_on h.graph asked.slots asked.weights) h.bytes k.certificate h.reason h.row
    (moved (λ g bytes. IsCertificate g bytes k.certificate) asked text k.kernel h.kernel k.graph h.graph k.bytes h.bytes k.accepted h.accepted (told_bytes file held k.bytes h.bytes told k.held h.held) k.certifies)
    h.refused
one_check asked text file held s t p q a b told (inr h) (inr k) = one_reason asked text file held s t p q a b told h k
