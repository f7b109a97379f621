-- Beside `specs/Course.antt`: what the code's own contracts say.
use Rattle.std.specs.Prelude.{◌≡◌, ◌⊎◌, ℕ, List, [], Option, Some, None, Result, Ok, Err}
use Rattle.values.specs.FileMap.{Files}
use Rattle.values.specs.declared.documents.Documents.{Documents}
use Rattle.outside.specs.code.Counts.{IsLater, Rose, one_done}
use Rattle.outside.specs.code.Docs.{Fetched}
use Rattle.outside.specs.Docs.{fetched}
use Rattle.outside.specs.declared.counts.Counts.{Counts}
use Rattle.outside.specs.declared.docs.DocFault.{DocFault}
use Rattle.outside.specs.declared.docs.DocFault.TheVariants as doc_faults
use Rattle.plan_request.specs.Request.{request_from_text}
use Rattle.plan_request.specs.declared.request.PlanRequest.{PlanRequest}
use Rattle.planner.specs.code.PlanFault.{answered}
use Rattle.planner.specs.declared.document.Document.TheVariants.{Request}
use Rattle.planner.specs.declared.plan_fault.PlanFault.{PlanFault}
use Rattle.pegasus_commands.specs.code.Fault.{plan_answer}
use Rattle.pegasus_commands.specs.declared.course.Requested.{Requested}
use Rattle.pegasus_commands.specs.declared.course.WithRecord.{WithRecord}
use Rattle.pegasus_commands.specs.declared.fault.CallFault.{CallFault}
use Rattle.pegasus_commands.specs.declared.fault.CallFault.TheVariants.{Memory, DocAbsent, DocTooLong, DocFailed}
use Rattle.pegasus_commands.specs.Moments.{DocsMoment}
use Rattle.pegasus_commands.specs.Course.{document_limit, IsDocument}

-- A course over documents: it ends with a value or a fault, or asks for a document and goes on with its bytes.
pub data Course (A : Type 0) : Type 0 where
  Ends : Result A CallFault → Course A
  Asks : List ℕ → (List ℕ → Course A) → Course A

-- one course after another, with the value of the first
abbrev pub ends_then : {A B : Type 0} → Result A CallFault → (A → Course B) → Course B
ends_then (Ok a) f = f a
ends_then (Err e) f = Ends (Err e)

infixl 10 ◌>>=◌
abbrev pub ◌>>=◌ : {A B : Type 0} → Course A → (A → Course B) → Course B
(Ends r) >>= f = ends_then r f
(Asks name next) >>= f = Asks name (λ bytes. next bytes >>= f)

-- the course of one document
abbrev pub document : {A : Type 0} → List ℕ → (List ℕ → Result A CallFault) → Course A
document name answered = Asks name (λ bytes. Ends (answered bytes))

-- the bytes of a document that may be unnamed
abbrev pub if_named : Option (List ℕ) → Course (Option (List ℕ))
if_named None = Ends (Ok None)
if_named (Some name) = document name (λ bytes. Ok (Some bytes))

-- the answer for a document that could not be had
abbrev pub doc_answer : List ℕ → DocFault → CallFault
doc_answer name doc_faults.Absent = DocAbsent name
doc_answer name doc_faults.Failed = DocFailed name
doc_answer name (doc_faults.TooLong limit) = DocTooLong name limit
doc_answer name doc_faults.Memory = Memory

-- what a course gives for told documents
abbrev pub goes_on : {A : Type 0} → Result (List ℕ) DocFault → List ℕ → (List ℕ → Result A CallFault)
    → Result A CallFault
goes_on (Ok bytes) name next = next bytes
goes_on (Err fault) name next = Err (doc_answer name fault)

abbrev pub read_from : {A : Type 0} → Files → Course A → Result A CallFault
read_from files (Ends r) = r
read_from files (Asks name next) = goes_on (fetched files name document_limit) name
    (λ bytes. read_from files (next bytes))

-- What came of a course, told or not. Each document that was asked for came and was counted, up to one that could not be had.
abbrev pub Gives : {A : Type 0} → Option Files → Course A → Counts → Counts → Result A CallFault → Type 0
Gives told (Ends r) before after result = (after ≡ before) × (result ≡ r)
Gives told (Asks name next) before after result =
    ((bytes : List ℕ) × IsDocument told name bytes × Gives told (next bytes) (one_done before) after result)
    ⊎ ((fault : DocFault) × Fetched told name document_limit before after (Err fault) []
    × (result ≡ Err (doc_answer name fault)))

-- a fetch failed, which was counted
abbrev pub HasFailed : {A : Type 0} → Counts → Counts → Result A CallFault → Type 0
HasFailed before after result = Rose before.faults after.faults × (name : List ℕ)
    × (result ≡ Err (DocFailed name))

-- memory ran out, or this holds
abbrev pub ButMemory : {A : Type 0} → Result A CallFault → Type 0 → Type 0
ButMemory (Err Memory) P = Unit {0}
ButMemory _ P = P

-- A step over documents: what came of a course between two moments.
pub record IsStep {A : Type 0} (course : Course A) (before after : DocsMoment)
    (result : Result A CallFault) : Type 0 where
  pub told : after.told ≡ before.told
  pub later : IsLater before.counts after.counts
  pub gives : ButMemory result (Gives before.told course before.counts after.counts result)

abbrev pub plan_answered : {A : Type 0} → Result A PlanFault → Result A CallFault
plan_answered (Ok a) = Ok a
plan_answered (Err fault) = Err (plan_answer fault)

abbrev pub request_in_bytes : List ℕ → Result PlanRequest CallFault
request_in_bytes bytes = plan_answered (answered Request (request_from_text bytes))

-- the documents that a request names, the workflow first
abbrev pub all_documents : PlanRequest → Course Documents
all_documents request = do
  workflow ← document request.workflow Ok
  sites ← if_named request.sites
  replicas ← if_named request.replicas
  transformations ← if_named request.transformations
  Ends (Ok (record {
    workflow = workflow;
    sites = sites;
    replicas = replicas;
    transformations = transformations;
  }))

-- the value of the whole: the request beside its documents
abbrev pub with_request : PlanRequest → Documents → Course Requested
with_request request documents = Ends (Ok (record { request = request; documents = documents }))

-- once the request is read, all documents that it names
abbrev pub named_documents : PlanRequest → Course Requested
named_documents request = all_documents request >>= with_request request

-- a call's documents: the request, and then those that it names
abbrev pub documents : List ℕ → Course Requested
documents name = document name request_in_bytes >>= named_documents

-- those, and then the document of a record
abbrev pub with_record : List ℕ → Requested → Course WithRecord
with_record history requested = document history
    (λ bytes. Ok (record { requested = requested; bytes = bytes }))

abbrev pub documents_with : List ℕ → List ℕ → Course WithRecord
documents_with name history = documents name >>= with_record history
