-- Where the reading of a policy stops, and how it goes on.
use Rattle.std.proofs.Common.{◌≡◌, ℕ, ◌+◌, List, [], ◌∷◌, ◌++◌, length, sym, ap, ◌∙◌, subst, inl, inr, append_assoc}
use Rattle.std.proofs.lemmas.List.{append-nil}
use Rattle.std.proofs.lemmas.List.Concat.{flat_map-append}
use Rattle.std.specs.Prelude.{All, Option, Result, Ok, Err}
use Rattle.std.specs.List.{flat_map}
use Rattle.span_base.specs.Files.{Files}
use Rattle.bound_cert.specs.declared.leaves.Line.{Line}
use Rattle.bound_cert.specs.declared.leaves.Goal.TheVariants as claimed
use Rattle.bound_cert.specs.Trees.{IsProof}
use Rattle.workload.specs.World.{Lists, IsComplete}
use Rattle.slo_rules.specs.PolicyText.{policy_text, ended}
use Rattle.slo_rules.specs.PolicyReading.{Draft, step, due_of, next_of}
use Rattle.slo_rules.specs.declared.policy_reader.Next.TheVariants.{More}
use Rattle.shelf_lines.specs.Lines.{fed, IsLine}
use Rattle.plan_text.specs.Parts.{Part}
use Rattle.plan_text.specs.PlanText.{cost_line}
use Rattle.plan_text.specs.Plans.{begun_plan}
use Rattle.plan_check.specs.declared.fault.CheckFault.{CheckFault}
use Rattle.plan_check.specs.declared.lines.PlanLines.{PlanLines}
use Rattle.plan_check.specs.declared.tree.Claim.{Claim}
use Rattle.plan_check.specs.Reading.{IsLineRead, Lacks, line_count}
use Rattle.plan_check.specs.Places.{program_at, policy_read, LeadTo, StopsInPolicy, RefusesInPolicy, bad_policy}
use Rattle.plan_check.specs.Parts.{JudgesPolicy, ReadsPolicy}
use Rattle.plan_check.proofs.Drafts.{read_back, lead_more, whole_text, open_policy}
use Rattle.plan_check.proofs.Stops.{line_there, read_as}

-- one more line of a policy
pub policy-more : (w : Lists) (parts : List Part) (tree : List Line) (cost : ℕ) (said : List (List ℕ)) (line : List ℕ)
    → policy_read w parts tree cost (said ++ line ∷ []) ≡ policy_read w parts tree cost said ++ fed line
policy-more w parts tree cost said line =
    let front = begun_plan w parts tree ++ cost_line cost in
    ap (λ (t : List ℕ). front ++ t) (flat_map-append ended said (line ∷ []) ∙ ap (λ (t : List ℕ). flat_map ended said ++ t) (append-nil (ended line)))
    ∙ sym (append_assoc front (flat_map ended said) (ended line))

-- the same behind any text
pub lines-more : (front : List ℕ) (said : List (List ℕ)) (line : List ℕ) → front ++ flat_map ended (said ++ line ∷ []) ≡ (front ++ flat_map ended said) ++ fed line
lines-more front said line =
    ap (λ (t : List ℕ). front ++ t) (flat_map-append ended said (line ∷ []) ∙ ap (λ (t : List ℕ). flat_map ended said ++ t) (append-nil (ended line)))
    ∙ sym (append_assoc front (flat_map ended said) (ended line))

pub lead_on : (w : Lists) (set : ℕ) (said : List (List ℕ)) (d next : Draft) (line : List ℕ) → LeadTo w set said d → step w d line ≡ Ok next
    → next.set ≡ d.set → More ≡ next_of (due_of w next) → LeadTo w set (said ++ line ∷ []) next
lead_on w set said d next line leads stepped same more = record {
  of_set = same ∙ leads.of_set;
  leads = lead_more w set said d next line leads stepped;
  unfinished = open_policy w next more;
}

-- the policy that the reader stands in
pub record IsAt (w : Lists) (parts : List Part) (tree : List Line) (cost set number : ℕ) (said : List (List ℕ)) (draft : Draft) : Type 0 where
  pub set_is : set ≡ length parts
  pub shown : IsProof (program_at w parts) tree (claimed.Cost cost)
  pub number_is : number ≡ line_count (begun_plan w parts tree) + 1
  pub leads : LeadTo w set said draft
  pub lines : All IsLine said

pub lacks_policy : (w : Lists) (files : Option Files) (name : List ℕ) (parts : List Part) (tree : List Line) (cost set number : ℕ) (said : List (List ℕ)) (draft : Draft) (fault : CheckFault)
    → IsAt w parts tree cost set number said draft → Lacks files name (policy_read w parts tree cost said) fault → StopsInPolicy w files name parts tree cost fault
lacks_policy w files name parts tree cost set number said draft fault place lacks = record {
  shown = place.shown;
  said = said;
  lines = place.lines;
  draft = draft;
  leads = subst (λ (n : ℕ). LeadTo w n said draft) place.set_is place.leads;
  met = inl lacks;
}

pub stops_policy : (w : Lists) (files : Option Files) (name : List ℕ) (parts : List Part) (tree : List Line) (cost set number : ℕ) (said : List (List ℕ)) (draft : Draft) (reader : PlanLines) (fault : CheckFault)
    → IsAt w parts tree cost set number said draft → IsLineRead files name (policy_read w parts tree cost said) reader
    → RefusesInPolicy w set cost number (line_count (policy_read w parts tree cost said)) draft reader.lines.line fault → StopsInPolicy w files name parts tree cost fault
stops_policy w files name parts tree cost set number said draft reader fault place next refuses =
    let text = policy_read w parts tree cost said in
    let line = reader.lines.line in
    record {
      shown = place.shown;
      said = said;
      lines = place.lines;
      draft = draft;
      leads = subst (λ (n : ℕ). LeadTo w n said draft) place.set_is place.leads;
      met = inr (
        line,
        next.line,
        line_there files name text reader next,
        subst (λ (n : ℕ). RefusesInPolicy w n cost (line_count (begun_plan w parts tree) + 1) (line_count text) draft line fault) place.set_is
            (subst (λ (n : ℕ). RefusesInPolicy w set cost n (line_count text) draft line fault) place.number_is refuses),
      );
    }

-- the last line of a policy, as it is judged
pub judged : (w : Lists) (files : Option Files) (name : List ℕ) (parts : List Part) (tree : List Line) (claim : Claim) (set : ℕ) (said : List (List ℕ)) (draft next : Draft) (reader : PlanLines) (r : Result (Unit {0}) CheckFault)
    → IsComplete w → IsAt w parts tree claim.cost set claim.line said draft → IsLineRead files name (policy_read w parts tree claim.cost said) reader
    → step w draft reader.lines.line ≡ Ok next → JudgesPolicy w set claim next r → ReadsPolicy w files name parts tree claim.cost reader r
judged w files name parts tree claim set said draft next reader (Ok done) complete place here stepped judges =
    let front = begun_plan w parts tree ++ cost_line claim.cost in
    let line = reader.lines.line in
    let p = judges.0 in
    let leads = subst (λ (n : ℕ). LeadTo w n said draft) place.set_is place.leads in
    let mine = subst (λ (n : ℕ). JudgesPolicy w n claim next (Ok done)) place.set_is judges in (
      mine.0,
      mine.2,
      mine.3,
      read_back w (length parts) said draft next line mine.0 complete leads stepped mine.1,
      read_as files name (policy_read w parts tree claim.cost said ++ fed line) (front ++ policy_text w mine.0) reader
          (append_assoc front (flat_map ended said) (fed line) ∙ ap (λ (t : List ℕ). front ++ t) (whole_text w set said draft next line mine.0 complete place.leads stepped mine.1)) here.read,
    )
judged w files name parts tree claim set said draft next reader (Err fault) complete place here stepped judges =
    stops_policy w files name parts tree claim.cost set claim.line said draft reader fault place here (bad_policy next judges.0 stepped judges.1 judges.2)
