-- The joint catalogues: the members' entries under their names, and the sites of the first member.
use Rattle.std.specs.Prelude.{◌≡◌, List, [], ◌∷◌, length, map}
use Rattle.std.specs.List.{flat_map}
use Rattle.site_catalog.specs.declared.catalog.SiteCatalog.{SiteCatalog}
use Rattle.replica_catalog.specs.declared.catalog.Replica.{Replica}
use Rattle.replica_catalog.specs.declared.catalog.ReplicaCatalog.{ReplicaCatalog}
use Rattle.transformation_catalog.specs.declared.catalog.TransformationCatalog.{TransformationCatalog}
use Rattle.transformation_catalog.specs.declared.catalog.TransformationEntry.{TransformationEntry}
use Rattle.ensemble.specs.declared.member.Member.{Member}
use Rattle.ensemble.specs.Entries.{entry_of, replica_of}

abbrev pub joint_replicas : List Member → List Replica
joint_replicas ms =
    flat_map (λ (m : Member). map (replica_of m.name) m.survey.replicas.entries) ms

abbrev pub joint_entries : List Member → List TransformationEntry
joint_entries ms =
    flat_map (λ (m : Member). map (entry_of m.name) m.survey.transformations.entries) ms

-- the catalogue of the first member, or an empty one
abbrev pub first_sites : List Member → SiteCatalog
first_sites [] = record { sites = []; ignored = [] }
first_sites (m ∷ ms) = m.survey.sites

-- the joint's replicas: those of all members, and no key of them is left over
pub record AreJointReplicas (ms : List Member) (c : ReplicaCatalog) : Type 0 where
  pub entries : c.entries ≡ joint_replicas ms
  pub listed : c.listed ≡ length (joint_replicas ms)
  pub ignored : c.ignored ≡ []

-- the same of its transformations
pub record AreJointTransformations (ms : List Member) (c : TransformationCatalog) : Type 0 where
  pub entries : c.entries ≡ joint_entries ms
  pub ignored : c.ignored ≡ []
