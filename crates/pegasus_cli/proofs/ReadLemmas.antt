-- A request with which a command goes on was read, and so were the documents that it names.
use Rattle.std.proofs.Common.{◌≡◌, List, ℕ, refl, sym, ap, subst, ◌∙◌, inl, inr}
use Rattle.std.specs.Prelude.{Option, Some, None, Result, Ok, Err}
use Rattle.values.specs.FileMap.{Files}
use Rattle.values.specs.declared.documents.Documents.{Documents}
use Rattle.outside.specs.code.Counts.{one_done}
use Rattle.outside.specs.declared.counts.Counts.{Counts}
use Rattle.peg_json.specs.declared.read_fault.ReadFault.{ReadFault}
use Rattle.plan_request.specs.Request.{request_from_text}
use Rattle.plan_request.specs.declared.request.PlanRequest.{PlanRequest}
use Rattle.planner.specs.code.PlanFault.{answered}
use Rattle.planner.specs.declared.document.Document.TheVariants.{Request}
use Rattle.planner.specs.declared.surveyed.Surveyed.{Surveyed}
use Rattle.pegasus_commands.specs.declared.course.Requested.{Requested}
use Rattle.pegasus_commands.specs.declared.fault.CallFault.{CallFault}
use Rattle.pegasus_commands.specs.code.Course.{Asks, Course, Gives, documents, if_named, named_documents, plan_answered, ends_then}
use Rattle.pegasus_commands.specs.Course.{IsDocument}
use Rattle.pegasus_commands.specs.code.Course.{◌>>=◌}
use Rattle.pegasus_commands.specs.Moments.{DocsMoment}
use Rattle.pegasus_commands.specs.code.InputSpec.{GoesOn}
use Rattle.pegasus_commands.specs.code.Survey.{survey_of}
use Rattle.pegasus_cli.specs.Read.{AreNamed, IsNamed, IsRead, SayThis}
use Rattle.pegasus_cli.proofs.SaidLemmas.{survey_said}

no_value : {A : Type 0} (a : A) (e : CallFault) → ◌≡◌ {A = Result A CallFault} (Ok a) (Err e) → ⊥
no_value a e is = absurd cc

same_value : {A : Type 0} (a x : A) → ◌≡◌ {A = Result A CallFault} (Ok a) (Ok x) → a ≡ x
same_value a x is = cc

-- ---- a document that a course asked for came

record Came {A : Type 0} (told : Option Files) (name : List ℕ) (next : List ℕ → Course A) (after : Counts) (a : A) : Type 0 where
  pub bytes : List ℕ
  pub is : IsDocument told name bytes
  pub mid : Counts
  pub goes : Gives told (next bytes) mid after (Ok a)

asked : {A : Type 0} (told : Option Files) (name : List ℕ) (next : List ℕ → Course A) (before after : Counts) (a : A) → Gives told (Asks name next) before after (Ok a) → Came told name next after a
asked {A} told name next before after a (inl h) = record { bytes = h.0; is = h.1; mid = one_done before; goes = h.2 }
asked {A} told name next before after a (inr h) = absurd (no_value {A = A} a _ h.2)

-- the same of one that may be unnamed
record CameIf {A B : Type 0} (told : Option Files) (name : Option (List ℕ)) (f : Option (List ℕ) → Course A) (g : A → Course B) (after : Counts) (b : B) : Type 0 where
  pub bytes : Option (List ℕ)
  pub is : IsNamed told name bytes
  pub mid : Counts
  pub goes : Gives told (f bytes >>= g) mid after (Ok b)

asked_if : {A B : Type 0} (told : Option Files) (name : Option (List ℕ)) (f : Option (List ℕ) → Course A) (g : A → Course B) (before after : Counts) (b : B) → Gives told ((if_named name >>= f) >>= g) before after (Ok b) → CameIf told name f g after b
asked_if told None f g before after b h = record { bytes = None; is = refl; mid = before; goes = h }
asked_if told (Some name) f g before after b h =
    let came = asked told name (λ bytes. f (Some bytes) >>= g) before after b h in
    record { bytes = Some came.bytes; is = came.is; mid = came.mid; goes = came.goes }

-- ---- a request, and those that it names

record AreRead (told : Option Files) (r : PlanRequest) (x : Requested) : Type 0 where
  pub request : x.request ≡ r
  pub named : AreNamed told r x.documents

named_so : (told : Option Files) (r : PlanRequest) (before after : Counts) (x : Requested) → Gives told (named_documents r) before after (Ok x) → AreRead told r x
named_so told r before after x h =
    let workflow = asked told r.workflow _ before after x h in
    let sites = asked_if told r.sites _ _ workflow.mid after x workflow.goes in
    let replicas = asked_if told r.replicas _ _ sites.mid after x sites.goes in
    let transformations = asked_if told r.transformations _ _ replicas.mid after x replicas.goes in
    let all : Documents = record { workflow = workflow.bytes; sites = sites.bytes; replicas = replicas.bytes; transformations = transformations.bytes } in
    let same : x ≡ record { request = r; documents = all } = same_value x (record { request = r; documents = all }) transformations.goes.1 in record {
      request = ap (λ (z : Requested). z.request) same;
      named = subst (λ (d : Documents). AreNamed told r d) (sym (ap (λ (z : Requested). z.documents) same)) (record { workflow = workflow.is; sites = sites.is; replicas = replicas.is; transformations = transformations.is });
    }

record IsRequestRead (told : Option Files) (name : List ℕ) (x : Requested) : Type 0 where
  pub bytes : List ℕ
  pub came : IsDocument told name bytes
  pub says : request_from_text bytes ≡ Ok x.request
  pub named : AreNamed told x.request x.documents

request_so : (told : Option Files) (name : List ℕ) (before after : Counts) (x : Requested) → Gives told (documents name) before after (Ok x) → IsRequestRead told name x
request_so told name before after x h = by (request_from_text came.bytes) refl came.goes
  where
    came : Came told name (λ bytes. ends_then (plan_answered (answered Request (request_from_text bytes))) named_documents) after x
    came = asked told name (λ bytes. ends_then (plan_answered (answered Request (request_from_text bytes))) named_documents) before after x h

    by : (r : Result PlanRequest ReadFault) → request_from_text came.bytes ≡ r → Gives told (ends_then (plan_answered (answered Request r)) named_documents) came.mid after (Ok x) → IsRequestRead told name x
    by (Err fault) e g = absurd (no_value {A = Requested} x _ g.1)
    by (Ok r) e g =
        let are = named_so told r came.mid after x g in
        record { bytes = came.bytes; came = came.is; says = e ∙ ap Ok (sym are.request); named = subst (λ (q : PlanRequest). AreNamed told q x.documents) (sym are.request) are.named }

-- ---- the whole

pub read_so : (name : List ℕ) (before after : DocsMoment) (s : Surveyed) → GoesOn (survey_of name) before after s → IsRead before.told name s
read_so name before after s h =
    let read = request_so before.told name before.counts after.counts h.given h.came.gives in
    let same = sym h.makes.request in record {
      bytes = read.bytes;
      came = read.came;
      request = read.says ∙ ap Ok same;
      documents = h.given.documents;
      named = subst (λ (q : PlanRequest). AreNamed before.told q h.given.documents) same read.named;
      say = subst (λ (q : PlanRequest). SayThis q.execute h.given.documents s.survey) same (survey_said h.given.request h.given.documents s.survey h.makes.survey);
    }
